use Rattle.std.{proofs.Common.{◌≡◌, take, None}, specs.List.fold}
use Rattle.model_claims.specs.Conditions.{watched, with_moment}
use Rattle.model_claims.proofs.truth.watched_truth.Given as goal

abbrev pub invariant-loop-fiber : goal.invariant-loop-fiber
invariant-loop-fiber l =
    l.known ≡
    fold (λ k f. with_moment l.source l.claim l.seen k (watched f)) None (take l.fiber-index l.seen.fibers.items)
