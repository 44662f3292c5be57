use Rattle.std.proofs.Common.{rules}
use Rattle.model_forms.proofs.Blocks.{behind_is}
use Rattle.model_forms.proofs.block.behind_first.Goals as goal

pub returns-in-Some-clause-behind : goal.returns-in-Some-clause-behind
returns-in-Some-clause-behind c = λ row b.
    behind_is c.args.forms.now c.args.block c.in-Some.form c.min.result row c.in-Some.ensures.some (search rules) (c.in-Some.ensures.first row b) b
