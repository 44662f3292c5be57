use Rattle.std.{proofs.Common.{◌≡◌, true, take}, specs.Str.Parse.digits_value}
use Rattle.term_parse.specs.Lexemes.{all_digits}
use Rattle.term_parse.proofs.token.plain_value.Given as goal

abbrev pub invariant-loop-digit : goal.invariant-loop-digit
invariant-loop-digit l = record {
  digits : all_digits (take l.digit-index l.digits) ≡ true;
  value : l.value ≡ digits_value 10 (take l.digit-index l.digits);
}
