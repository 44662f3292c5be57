use Rattle.std.{proofs.Common.{◌≡◌, true, map, take}, specs.List.All}
use Rattle.derived_ops.specs.{Expansion.code_of, Reading.source_of}
use Rattle.model_runs.specs.Seeing.{IsSeen}
use Rattle.model_runs.proofs.searching.explored_answers.Given as goal

-- the answers so far are named
abbrev pub invariant-loop-answer : goal.invariant-loop-answer
invariant-loop-answer g l = record {
  each : All (IsSeen (code_of (source_of l.prepared.program)) l.plan.limits) l.answers.items;
  all : l.whole ≡ true → map (λ a. a.schedule) l.answers.items ≡ map (λ a. a.schedule) (take l.answer-index l.found);
}
