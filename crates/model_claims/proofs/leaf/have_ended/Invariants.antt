use Rattle.std.{proofs.Common.{◌≡◌, drop}, specs.List.list_all}
use Rattle.model_claims.specs.Leaves.{is_ended}
use Rattle.model_claims.proofs.leaf.have_ended.Given as goal

abbrev pub invariant-loop-fiber : goal.invariant-loop-fiber
invariant-loop-fiber l =
    list_all (λ f. is_ended l.source l.who f) (drop l.fiber-index l.seen.fibers.items) ≡
    list_all (λ f. is_ended l.source l.who f) l.seen.fibers.items
