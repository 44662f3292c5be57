use Rattle.std.proofs.Common.{◌-◌, Result}
use Rattle.model_forms.specs.Rows.{Row, IsBlock}
use Rattle.model_text.{specs.{Items.run_of, declared.fault.ItemFault.ItemFault}, proofs.Walks.Rest}
use Rattle.model_text.proofs.model.run_of.Given as goal

abbrev pub invariant-loop-form : goal.invariant-loop-form
invariant-loop-form l = (row : Row) → IsBlock l.forms l.fn.block row → Rest (Result Row ItemFault) (run_of l.text l.place) l.forms l.rest row

abbrev pub decreases-loop-form : goal.decreases-loop-form
decreases-loop-form l = l.rest.end - l.rest.first
