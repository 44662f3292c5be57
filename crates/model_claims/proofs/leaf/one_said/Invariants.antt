use Rattle.std.{proofs.Common.{◌≡◌, drop}, specs.List.list_any}
use Rattle.model_claims.specs.Leaves.{said_all}
use Rattle.model_claims.proofs.leaf.one_said.Given as goal

abbrev pub invariant-loop-fiber : goal.invariant-loop-fiber
invariant-loop-fiber l =
    list_any (λ f. said_all l.source l.seen l.who l.values f) (drop l.fiber-index l.seen.fibers.items) ≡
    list_any (λ f. said_all l.source l.seen l.who l.values f) l.seen.fibers.items
