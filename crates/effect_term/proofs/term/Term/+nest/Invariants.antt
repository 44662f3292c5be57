use Rattle.std.proofs.Common.{◌≡◌, ◌+◌, ◌-◌, ◌^◌, ◌<◌, ◌≤◌, min, max, drop}
use Rattle.effect_term.specs.Sizes.{nest_of, deepest}
use Rattle.effect_term.proofs.term.Term.+nest.Given as goal

abbrev pub invariant-loop-t : goal.invariant-loop-t
invariant-loop-t l =
    (1 ≤ l.total) × (l.total < 2 ^ 64) × (min (max l.total (1 + deepest (drop l.t-index l.t-items))) (2 ^ 64 - 1) ≡ min (nest_of l.self) (2 ^ 64 - 1))
