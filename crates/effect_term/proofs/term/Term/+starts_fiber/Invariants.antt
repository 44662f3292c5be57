use Rattle.std.proofs.Common.{◌≡◌, ◌||◌, drop}
use Rattle.effect_term.specs.Starts.{starts_fiber, some_starts_fiber}
use Rattle.effect_term.proofs.term.Term.+starts_fiber.Given as goal

abbrev pub invariant-loop-t : goal.invariant-loop-t
invariant-loop-t l =
    l.starts || some_starts_fiber (drop l.t-index l.t-items) ≡ starts_fiber l.self
