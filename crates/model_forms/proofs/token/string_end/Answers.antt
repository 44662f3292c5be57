use Rattle.std.proofs.Common.{rules}
use Rattle.model_forms.proofs.Lexing.{string_goes_on, string_stops, string_ends}
use Rattle.model_forms.proofs.token.string_end.Goals as goal

pub loop-at-preserved : goal.loop-at-preserved
loop-at-preserved c = string_goes_on c.args.text.now c.args.from c.loop-at.at c.loop-at.invariant c.loop-at-test.true (search rules)

pub returns-then-ends_string : goal.returns-then-ends_string
returns-then-ends_string c = string_stops c.args.text.now c.args.from c.loop-at.at c.loop-at.invariant c.loop-at-test.true (search rules)

pub returns : goal.returns
returns c = string_ends c.args.text.now c.args.from c.loop-at.at c.loop-at.invariant c.loop-at-test.false
