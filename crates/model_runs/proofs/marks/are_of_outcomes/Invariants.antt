use Rattle.std.{proofs.Common.{◌≡◌, drop}, specs.List.list_all}
use Rattle.model_runs.specs.Marks.{is_of_outcomes}
use Rattle.model_runs.proofs.marks.are_of_outcomes.Given as goal

-- the words so far aren't about what fibers said
abbrev pub invariant-loop-word : goal.invariant-loop-word
invariant-loop-word l = list_all is_of_outcomes (drop l.word-index l.words) ≡ list_all is_of_outcomes l.words
