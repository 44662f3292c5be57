use Rattle.std.{proofs.Common.{◌≡◌, ◌≢◌, ℕ, ◌<◌}, specs.{Prelude.Some, List.slice_get}}
use Rattle.every_schedule.specs.declared.exploration.Answer.{Answer}
use Rattle.outcome_answers.proofs.shown.has_end.Given as goal

-- no answer so far has this end
abbrev pub invariant-loop-answer : goal.invariant-loop-answer
invariant-loop-answer l = (j : ℕ) (s : Answer) → j < l.answer-index → slice_get l.shown j ≡ Some s → s.end ≢ l.end
