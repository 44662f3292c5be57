use Rattle.std.specs.List.{list_any}
use Rattle.exploration_text.{specs.Missing.has_outcome, proofs.MissingLines.IsFront}
use Rattle.exploration_text.proofs.missing.missing_of_exploration.Given as goal

abbrev pub invariant-loop-want : goal.invariant-loop-want
invariant-loop-want l = IsFront l.exploration.complete (λ want. list_any (λ a. has_outcome want a.end) l.exploration.answers) l.wants l.want-index l.text.items
