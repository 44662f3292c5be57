use Rattle.std.{proofs.Common.{◌≡◌, drop}, specs.List.list_any}
use Rattle.exploration_text.specs.Missing.{has_outcome}
use Rattle.exploration_text.proofs.missing.coming_has.Given as goal

abbrev pub invariant-loop-coming : goal.invariant-loop-coming
invariant-loop-coming l =
    list_any (λ c. has_outcome l.want c.answer.end) (drop l.coming-index l.comings) ≡ list_any (λ c. has_outcome l.want c.answer.end) l.comings
