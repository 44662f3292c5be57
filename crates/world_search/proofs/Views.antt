-- What a reduced search shows of each world: if free moves keep a property of worlds, each world that a schedule leads to has the property of a world of the
-- reduced system.
use Rattle.std.proofs.Common.{◌≡◌, ℕ, zero, suc, ◌≤◌, Bool, true, false, List, [], ◌∷◌, length, Result, Ok, Err, refl, sym, ap, ◌∙◌, subst, arith}
use mathlib.Core.Logic.{inl, inr, dite}
use native.Mathlib.Decide.{ℕ_discrete}
use Rattle.world_search.specs.Free.{AreEarly, Commutes, Leads, Leaps}
use Rattle.world_search.specs.Free.Leads.{Here, On}
use Rattle.world_search.specs.Systems.{run}
use Rattle.world_search.proofs.Free.{run_fault}

module _ {W E : Type 0} (step : W → ℕ → Result W E) (Free : W → ℕ → Type 0) where
  leads_on : (a b c : W) → Leads step Free a b → Leads step Free b c → Leads step Free a c
  leads_on a b c (Here x y same) on = subst (λ z. Leads step Free z c) (sym same) on
  leads_on a b c (On x f y z h q first) on = On x f y c h q (leads_on y z c first on)

  -- several free moves keep what each free move keeps
  pub leads_keep : {A : Type 0} (look : W → A) → ((w : W) (f : ℕ) (x : W) → Free w f → step w f ≡ Ok x → look x ≡ look w) → (w v : W) →
      Leads step Free w v → look v ≡ look w
  leads_keep look keeps w v (Here a b same) = ap look (sym same)
  leads_keep look keeps w v (On a f x b h q on) = leads_keep look keeps x b on ∙ keeps a f x h q

  -- several free moves keep what is true, where each free move does
  pub leads_grow : (look : W → Bool) → ((w : W) (f : ℕ) (x : W) → Free w f → step w f ≡ Ok x → look w ≡ true → look x ≡ true) → (w v : W) →
      Leads step Free w v → look w ≡ true → look v ≡ true
  leads_grow look keeps w v (Here a b same) e = subst (λ z. look z ≡ true) same e
  leads_grow look keeps w v (On a f x b h q on) e = leads_grow look keeps x b on (keeps a f x h q e)

  -- at most n entries lead from x to where free moves lead from v
  abbrev Joins : W → W → ℕ → Type 0
  Joins x v n = (t : List ℕ) × (u : W) × (length t ≤ n) × (run step (Ok x) t ≡ Ok u) × Leads step Free v u

  module _ (free : AreEarly step Free) where
    -- an entry that changes nothing is left out
    idle_passed : (s : List ℕ) (w x v : W) (y : Result W E) → y ≡ Ok w → run step y s ≡ Ok v → (run step (Ok w) s ≡ Ok v → Joins x v (length s)) →
        Joins x v (suc (length s))
    idle_passed s w x v y idle led rest =
        let i = rest (ap (λ z. run step z s) (sym idle) ∙ led) in
        (i.0, i.1, omega (arith, i.2), i.3, i.4)

    joined_from : (s : List ℕ) (x : W) (f g : ℕ) (y : Result W E) →
        ((y z : W) → Free y f → step y f ≡ Ok z → (v : W) → run step (Ok y) s ≡ Ok v → Joins z v (length s)) → Commutes step Free f x g y →
        (v : W) → run step y s ≡ Ok v → Joins x v (suc (length s))
    joined_from s x f g (Ok y) rest h v led =
        let i = rest y h.1 h.0 h.2 v led in
        (g ∷ i.0, i.1, omega (arith, i.2), ap (λ z. run step z i.0) h.3 ∙ i.3, i.4)
    joined_from s x f g (Err e) rest h v led = let stuck : run step (Err e) s ≡ Err e = run_fault step e s in absurd (cc)

    -- one free move made earlier
    joined : (s : List ℕ) (w x : W) (f : ℕ) → Free w f → step w f ≡ Ok x → (v : W) → run step (Ok w) s ≡ Ok v → Joins x v (length s)
    joined [] w x f h q v led =
        let same : w ≡ v = cc in
        ([], x, omega arith, refl, subst (λ a. Leads step Free a x) same (On w f x x h q (Here x x refl)))
    joined (g ∷ s) w x f h q v led = dite (ℕ_discrete g f)
        (λ is. (s, v, omega arith, ap (λ y. run step y s) (sym (subst (λ n. step w n ≡ Ok x) (sym is) q)) ∙ led, Here v v refl))
        (λ isnt. elim (free.commutes w f x h q g isnt) [
          | inl idle ↦ idle_passed s w x v (step w g) idle led (joined s w x f h q v)
          | inr pair ↦ joined_from s x f g (step w g) (λ y z. joined s y z f) pair v led
        ])

    -- several free moves made earlier
    joined_led : (w v : W) → Leads step Free w v → (s : List ℕ) (u : W) → run step (Ok w) s ≡ Ok u → Joins v u (length s)
    joined_led w v (Here a b same) s u led = (s, u, omega arith, ap (λ x. run step (Ok x) s) (sym same) ∙ led, Here u u refl)
    joined_led w v (On a f x b h q on) s u led =
        let one = joined s a x f h q u led in
        let rest = joined_led x b on one.0 one.1 one.3 in
        (rest.0, rest.1, omega (arith, one.2, rest.2), rest.3, leads_on u one.1 rest.1 one.4 rest.4)

    module _ (leap : W → ℕ → Result W E) (leaps : (w : W) (f : ℕ) → Leaps step Free (step w f) (leap w f)) where
      -- the reduced system leads from w to where free moves lead from u
      abbrev Catches : W → W → Type 0
      Catches w u = (t : List ℕ) × (x : W) × (run leap (Ok w) t ≡ Ok x) × Leads step Free u x

      caught_next : (n : ℕ) (w : W) (f : ℕ) (s : List ℕ) → length s ≤ n →
          ((v : W) (t : List ℕ) → length t ≤ n → (u : W) → run step (Ok v) t ≡ Ok u → Catches v u) →
          (y : Result W E) → Leaps step Free y (leap w f) → (u : W) → run step y s ≡ Ok u → Catches w u
      caught_next n w f s long rest (Ok x) h u led =
          let one = joined_led x h.0 h.1 s u led in
          let on = rest h.0 one.0 (omega (arith, one.2)) one.1 one.3 in
          (f ∷ on.0, on.1, ap (λ y. run leap y on.0) h.2 ∙ on.2, leads_on u one.1 on.1 one.4 on.3)
      caught_next n w f s long rest (Err e) h u led = let stuck : run step (Err e) s ≡ Err e = run_fault step e s in absurd (cc)

      caught : (n : ℕ) (w : W) (s : List ℕ) → length s ≤ n → (u : W) → run step (Ok w) s ≡ Ok u → Catches w u
      caught n w [] long u led = ([], u, led, Here u u refl)
      caught zero w (f ∷ s) long u led = absurd (omega arith)
      caught (suc n) w (f ∷ s) long u led = caught_next n w f s (omega arith) (caught n) (step w f) (leaps w f) u led

      -- a property that no world of the reduced system has, no world of the full one has
      pub unmet_up : (look : W → Bool) → ((w : W) (f : ℕ) (x : W) → Free w f → step w f ≡ Ok x → look x ≡ look w) → (first : W) →
          ((t : List ℕ) (w : W) → run leap (Ok first) t ≡ Ok w → look w ≡ false) → (s : List ℕ) (w : W) → run step (Ok first) s ≡ Ok w → look w ≡ false
      unmet_up look keeps first none s w led =
          let c = caught (length s) first s (omega arith) w led in
          sym (leads_keep look keeps w c.1 c.3) ∙ none c.0 c.1 c.2

      -- the same for a property that free moves keep where it is true
      pub unmet_where_it_grows : (look : W → Bool) → ((w : W) (f : ℕ) (x : W) → Free w f → step w f ≡ Ok x → look w ≡ true → look x ≡ true) →
          (first : W) → ((t : List ℕ) (w : W) → run leap (Ok first) t ≡ Ok w → look w ≡ false) → (s : List ℕ) (w : W) → run step (Ok first) s ≡ Ok w →
          look w ≡ true → ⊥
      unmet_where_it_grows look keeps first none s w led met =
          let c = caught (length s) first s (omega arith) w led in
          let grown : look c.1 ≡ true = leads_grow look keeps w c.1 c.3 met in
          let no : true ≡ false = sym grown ∙ none c.0 c.1 c.2 in
          cc
