use Rattle.std.{proofs.Common.{◌≡◌, drop}, specs.List.list_all}
use Rattle.model_claims.specs.Leaves.{has_value}
use Rattle.model_claims.proofs.leaf.has_said.Given as goal

abbrev pub invariant-loop-value : goal.invariant-loop-value
invariant-loop-value l =
    list_all (λ v. has_value l.said v) (drop l.value-index l.values) ≡
    list_all (λ v. has_value l.said v) l.values
