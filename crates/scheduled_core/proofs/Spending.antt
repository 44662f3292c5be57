-- Entries that are moves, one after another, and what is left to each fiber.
use Rattle.std.proofs.Common.{◌≡◌, ℕ, ◌+◌, ◌-◌, List, [], ◌∷◌, ◌++◌, set, replicate, Result, Ok, refl, sym, ap, ◌∙◌, subst, arith, append-nil}
use Rattle.std.specs.{Prelude.{Option, None, Some}, List.fold}
use Rattle.effect_term.specs.declared.reply.Outcome.{Outcome}
use Rattle.fiber_frames.specs.Fiber.{Fiber, outcome_of}
use Rattle.cell_registry.specs.declared.limits.{Limits.Limits, RunError.RunError}
use Rattle.scheduled_core.specs.{declared.wish.Wish.TheVariants.Nothing, Core.{World, entered}, Spending.{Spends, spent}, Stands.wish}
use Rattle.scheduled_core.proofs.Finality.{over_wish}

-- a fiber that has a next move hasn't ended
pub going : (g : Fiber) → (wish g ≡ Nothing → ⊥) → outcome_of g ≡ None
going g moves = by_outcome (outcome_of g) refl
  where
    by_outcome : (o : Option Outcome) → outcome_of g ≡ o → outcome_of g ≡ None
    by_outcome None e = e
    by_outcome (Some o) e = absurd (moves (over_wish g (o, e)))

-- where nobody is born
pub no_birth : (lefts : List ℕ) (f left now before : ℕ) → now ≡ before → spent lefts f left (now - before) ≡ set lefts f left
no_birth lefts f left now before same =
    let none : now - before ≡ 0 = omega (arith, same) in
    ap (λ n. set lefts f left ++ replicate n left) none ∙ append-nil (set lefts f left)

-- entries behind entries
pub spends_join : (k : Limits) (w u v : World) (c d e : List ℕ) (s t : List ℕ) → Spends k w c s u d → Spends k u d t v e → Spends k w c (s ++ t) v e
spends_join k w u v c d e [] t p q =
    subst (λ (x : World). Spends k x c t v e) (sym p.0) (subst (λ (x : List ℕ). Spends k u x t v e) (sym p.1) q)
spends_join k w u v c d e (f ∷ s) t p q = (p.0, p.1, p.2, p.3, p.4, p.5, p.6, spends_join k p.2 u v _ d e s t p.7 q)

-- they are entries of the core
pub spends_core : (k : Limits) (w v : World) (c d : List ℕ) (s : List ℕ) → Spends k w c s v d → fold (entered k) (Ok w) s ≡ Ok v
spends_core k w v c d [] p = ap Ok p.0
spends_core k w v c d (f ∷ s) p = ap (λ (x : Result World RunError). fold (entered k) x s) p.6 ∙ spends_core k p.2 v _ d s p.7
