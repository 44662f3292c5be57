use Rattle.std.{proofs.Common.{◌≡◌, drop}, specs.List.list_any}
use Rattle.exploration_text.specs.Wants.{first_outcome, is_met}
use Rattle.exploration_text.proofs.texts.is_wanted.Given as goal

abbrev pub invariant-loop-want : goal.invariant-loop-want
invariant-loop-want l =
    list_any (λ want. is_met want (first_outcome l.report.fibers)) (drop l.want-index l.wants) ≡
    list_any (λ want. is_met want (first_outcome l.report.fibers)) l.wants
