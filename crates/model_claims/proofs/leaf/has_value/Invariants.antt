use Rattle.std.{proofs.Common.{◌≡◌, drop}, specs.{List.list_any, Ordering.int_eq}}
use Rattle.model_claims.proofs.leaf.has_value.Given as goal

abbrev pub invariant-loop-one : goal.invariant-loop-one
invariant-loop-one l =
    list_any (λ w. int_eq w l.value) (drop l.one-index l.said) ≡
    list_any (λ w. int_eq w l.value) l.said
