use Rattle.std.proofs.Common.{◌-◌, ◌≡◌, Option, ℕ}
use Rattle.model_forms.specs.Rows.{Row, IsBlock}
use Rattle.model_text.{specs.Items.bad_part, proofs.Walks.Rest}
use Rattle.model_text.proofs.part.bad_part.Given as goal

abbrev pub invariant-loop-form : goal.invariant-loop-form
invariant-loop-form l = (row : Row) → IsBlock l.forms l.fn.block row → Rest (Option ℕ) (bad_part l.text) l.forms l.rest row

abbrev pub decreases-loop-form : goal.decreases-loop-form
decreases-loop-form l = l.rest.end - l.rest.first
