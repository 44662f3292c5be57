use Rattle.std.proofs.{Common.{arith, rules}, lemmas.Grind.common_steps}
use Rattle.term_parse.{specs.Seen.plain_value, proofs.Lexing.{plain_none, digits_fail, digits_more, value_more, value_over}}
use Rattle.model_text.proofs.number.plain_value.Goals as goal

pub returns-then-not-is_digit : goal.returns-then-not-is_digit
returns-then-not-is_digit c = plain_none c.args.digits.now (digits_fail c.args.digits.now c.loop-digit.digit-index c.loop-digit-test.true (search rules))

pub loop-digit-preserved : goal.loop-digit-preserved
loop-digit-preserved c = record {
  digits = digits_more c.args.digits.now c.loop-digit.digit-index c.loop-digit-test.true c.loop-digit.invariant.digits (search rules);
  value = value_more c.args.digits.now c.loop-digit.digit-index c.loop-digit.value c.from.result c.loop-digit-test.true (search rules) (search rules)
      c.loop-digit.invariant.value;
}

pub returns-then-value : goal.returns-then-value
returns-then-value c = value_over c.args.digits.now c.loop-digit.digit-index c.loop-digit.value c.loop-digit-test.true
    c.loop-digit.invariant.value (omega arith)

pub returns : goal.returns
unfolding plain_value
returns c = first_of (search rules, grind (arith, common_steps))
