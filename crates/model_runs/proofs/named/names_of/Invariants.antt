use Rattle.std.proofs.Common.{◌≡◌, length}
use Rattle.model_runs.proofs.named.names_of.Given as goal

-- each event so far has its form
abbrev pub invariant-loop-event : goal.invariant-loop-event
invariant-loop-event l = length l.names.forms.items ≡ l.event-index
