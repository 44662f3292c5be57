use Rattle.std.{proofs.Common.{◌≡◌, ◌<◌, ℕ}, specs.{Prelude.Some, List.slice_get}}
use Rattle.every_schedule.specs.declared.exploration.Answer.{Answer}
use Rattle.compared_ends.specs.{Comparisons.IsSeenIn, Views.viewed}
use Rattle.compared_ends.proofs.extras.first_unseen.Given as goal

-- the answers so far are seen among the others
abbrev pub invariant-loop-index : goal.invariant-loop-index
invariant-loop-index l = (i : ℕ) (a : Answer) → i < l.index → slice_get l.ones i ≡ Some a → IsSeenIn l.basis l.others (viewed l.basis a.end)
