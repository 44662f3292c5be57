use Rattle.std.proofs.Common.{◌≡◌, ◌+◌, ◌-◌, ◌^◌, ◌<◌, min, drop}
use Rattle.effect_term.specs.Sizes.{size_of, total_size}
use Rattle.effect_term.proofs.term.Term.+size.Given as goal

abbrev pub invariant-loop-t : goal.invariant-loop-t
invariant-loop-t l =
    (l.total < 2 ^ 64) × (min (l.total + total_size (drop l.t-index l.t-items)) (2 ^ 64 - 1) ≡ min (size_of l.self) (2 ^ 64 - 1))
