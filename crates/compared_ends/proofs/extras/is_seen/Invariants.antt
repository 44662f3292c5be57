use Rattle.std.{proofs.Common.{◌≡◌, ◌≢◌, ◌<◌, ℕ}, specs.{Prelude.Some, List.slice_get}}
use Rattle.every_schedule.specs.declared.exploration.Answer.{Answer}
use Rattle.compared_ends.specs.Views.{viewed}
use Rattle.compared_ends.proofs.extras.is_seen.Given as goal

-- none of the answers so far has this end
abbrev pub invariant-loop-answer : goal.invariant-loop-answer
invariant-loop-answer l = (i : ℕ) (a : Answer) → i < l.answer-index → slice_get l.answers i ≡ Some a → viewed l.basis a.end ≢ viewed l.basis l.end
