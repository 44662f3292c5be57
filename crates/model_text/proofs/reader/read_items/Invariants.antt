use Rattle.std.proofs.Common.{◌-◌, ◌≡◌}
use Rattle.model_forms.specs.Rows.{Row, flat}
use Rattle.model_text.proofs.Walks.{Items}
use Rattle.model_text.proofs.reader.read_items.Given as goal

abbrev pub invariant-loop-form : goal.invariant-loop-form
invariant-loop-form l = (row : Row) → l.forms ≡ flat row → Items l.text l.forms l.rest l.items.items row

abbrev pub decreases-loop-form : goal.decreases-loop-form
decreases-loop-form l = l.rest.end - l.rest.first
