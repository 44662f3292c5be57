use Rattle.std.{proofs.Common.{◌≡◌, drop}, specs.List.list_all}
use Rattle.model_claims.specs.Leaves.{ends_so}
use Rattle.model_claims.proofs.leaf.end_so.Given as goal

abbrev pub invariant-loop-fiber : goal.invariant-loop-fiber
invariant-loop-fiber l =
    list_all (λ f. ends_so l.source l.who l.wanted f) (drop l.fiber-index l.seen.fibers.items) ≡
    list_all (λ f. ends_so l.source l.who l.wanted f) l.seen.fibers.items
