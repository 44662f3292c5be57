use Rattle.std.{proofs.Common.{◌≡◌, drop}, specs.List.list_any}
use Rattle.model_claims.specs.Leaves.{is_wanted}
use Rattle.model_claims.proofs.leaf.is_one_of.Given as goal

abbrev pub invariant-loop-way : goal.invariant-loop-way
invariant-loop-way l =
    list_any (λ w. is_wanted w l.outcome) (drop l.way-index l.wanted) ≡
    list_any (λ w. is_wanted w l.outcome) l.wanted
