use Rattle.std.{proofs.Common.{◌≡◌, drop}, specs.List.list_any}
use Rattle.exploration_text.specs.Missing.{has_outcome}
use Rattle.exploration_text.proofs.missing.answer_has.Given as goal

abbrev pub invariant-loop-answer : goal.invariant-loop-answer
invariant-loop-answer l =
    list_any (λ a. has_outcome l.want a.end) (drop l.answer-index l.answers) ≡ list_any (λ a. has_outcome l.want a.end) l.answers
