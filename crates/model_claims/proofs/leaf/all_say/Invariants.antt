use Rattle.std.{proofs.Common.{◌≡◌, drop}, specs.List.list_all}
use Rattle.model_claims.specs.Leaves.{says_so}
use Rattle.model_claims.proofs.leaf.all_say.Given as goal

abbrev pub invariant-loop-fiber : goal.invariant-loop-fiber
invariant-loop-fiber l =
    list_all (λ f. says_so l.source l.seen l.who l.values f) (drop l.fiber-index l.seen.fibers.items) ≡
    list_all (λ f. says_so l.source l.seen l.who l.values f) l.seen.fibers.items
