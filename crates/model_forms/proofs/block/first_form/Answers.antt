use Rattle.model_forms.proofs.Blocks.{first_is}
use Rattle.model_forms.proofs.block.first_form.Goals as goal

pub returns-then-block-forms-clause-first : goal.returns-then-block-forms-clause-first
returns-then-block-forms-clause-first c = λ row b. first_is c.args.forms.now c.args.block _ row c.if-block.true c.if-block-forms.true b
