use Rattle.std.proofs.Common.{rules}
use Rattle.model_forms.proofs.Blocks.{inside_is}
use Rattle.model_forms.proofs.block.inside_first.Goals as goal

pub returns-in-Some : goal.returns-in-Some
returns-in-Some c = λ row b.
    inside_is c.args.forms.now c.args.block c.in-Some.form c.min.result row c.in-Some.ensures.some (search rules) (c.in-Some.ensures.first row b) b
