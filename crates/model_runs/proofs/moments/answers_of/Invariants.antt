use Rattle.std.proofs.Common.{◌≡◌, map, take}
use Rattle.model_runs.proofs.moments.answers_of.Given as goal

-- the moments so far, with their schedules
abbrev pub invariant-loop-one : goal.invariant-loop-one
invariant-loop-one l = map (λ a. a.schedule) l.answers.items ≡ map (λ m. m.schedule.items) (take l.one-index l.met)
