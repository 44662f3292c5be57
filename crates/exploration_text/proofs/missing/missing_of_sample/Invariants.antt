use Rattle.std.{proofs.Common.false, specs.List.list_any}
use Rattle.exploration_text.{specs.Missing.has_outcome, proofs.MissingLines.IsFront}
use Rattle.exploration_text.proofs.missing.missing_of_sample.Given as goal

abbrev pub invariant-loop-want : goal.invariant-loop-want
invariant-loop-want l = IsFront false (λ want. list_any (λ c. has_outcome want c.answer.end) l.sample.comings) l.wants l.want-index l.text.items
