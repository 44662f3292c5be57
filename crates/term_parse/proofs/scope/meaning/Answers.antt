use Rattle.std.proofs.Common.{◌≡◌, Result, Ok, Err, rules}
use Rattle.effect_term.specs.declared.term.Name.{Name}
use Rattle.term_parse.{specs.{declared.error.ParseError.ParseError, Bindings.bounds, Reading.meaning}, proofs.ScopeLaws.{meant_where, unknown_where}}
use Rattle.term_parse.proofs.ScopeLaws.{other_where}
use Rattle.term_parse.specs.declared.error.ParseError.TheVariants as errors
use Rattle.term_parse.proofs.scope.meaning.Goals as goal

pub returns-in_default : goal.returns-in_default
unfolding meaning
returns-in_default c =
    let answer : Result Name ParseError = Err (errors.UnknownName c.args.place) in
    let is : answer ≡ meaning (bounds c.args.text.now c.args.scope.now) c.args.kind c.args.spelling.now c.args.place = search rules in
    record {
      meaning = is;
      meant = meant_where _ _ _ _ _ is;
      unknown = unknown_where _ _ _ _ _ is;
      other_kind = other_where _ _ _ _ _ is;
    }

pub returns-then-same_kind : goal.returns-then-same_kind
unfolding meaning
returns-then-same_kind c =
    let answer : Result Name ParseError = Ok c.in-Some.name in
    let is : answer ≡ meaning (bounds c.args.text.now c.args.scope.now) c.args.kind c.args.spelling.now c.args.place = search rules in
    record {
      meaning = is;
      meant = meant_where _ _ _ _ _ is;
      unknown = unknown_where _ _ _ _ _ is;
      other_kind = other_where _ _ _ _ _ is;
    }

pub returns-else-same_kind : goal.returns-else-same_kind
unfolding meaning
returns-else-same_kind c =
    let answer : Result Name ParseError = Err (errors.NameKind c.args.place) in
    let is : answer ≡ meaning (bounds c.args.text.now c.args.scope.now) c.args.kind c.args.spelling.now c.args.place = search rules in
    record {
      meaning = is;
      meant = meant_where _ _ _ _ _ is;
      unknown = unknown_where _ _ _ _ _ is;
      other_kind = other_where _ _ _ _ _ is;
    }
