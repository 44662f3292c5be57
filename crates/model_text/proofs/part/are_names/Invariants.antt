use Rattle.std.proofs.Common.{◌-◌, ◌≡◌, Bool, ℕ}
use Rattle.model_forms.specs.Rows.{Row, IsBlock}
use Rattle.model_text.{specs.Items.are_names, proofs.Walks.Rest}
use Rattle.model_text.proofs.part.are_names.Given as goal

abbrev pub invariant-loop-form : goal.invariant-loop-form
invariant-loop-form l = (row : Row) → IsBlock l.forms l.fn.block row → Rest Bool (are_names l.text) l.forms l.rest row

abbrev pub decreases-loop-form : goal.decreases-loop-form
decreases-loop-form l = l.rest.end - l.rest.first
