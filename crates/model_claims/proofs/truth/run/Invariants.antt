use Rattle.std.{proofs.Common.{◌≡◌, take}, specs.List.fold}
use Rattle.model_claims.specs.Conditions.{step}
use Rattle.model_claims.proofs.truth.run.Given as goal

abbrev pub invariant-loop-word : goal.invariant-loop-word
invariant-loop-word l =
    l.stack.items ≡
    fold (λ s w. step l.source l.condition l.seen l.held s w) l.initial.stack.items (take l.word-index l.words)
