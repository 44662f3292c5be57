use Rattle.std.proofs.Common.{◌≡◌, ◌+◌, ◌-◌, ◌<◌, min, drop}
use Rattle.effect_term.specs.ExpansionSize.{expansion_size_of, total_expansion_size}
use Rattle.effect_term.proofs.term.Term.+expansion_size.Given as goal

abbrev pub invariant-loop-t : goal.invariant-loop-t
invariant-loop-t l =
    (l.total < 1000002) × (min (l.total + total_expansion_size (drop l.t-index l.t-items)) (1000002 - 1) ≡ min (expansion_size_of l.self) (1000002 - 1))
