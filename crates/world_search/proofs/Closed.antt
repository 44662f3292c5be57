-- Each schedule from a closed set of worlds and faults leads into the set. A closed set in which no move changes the report is settled.
use Rattle.std.proofs.Common.{◌≡◌, ℕ, List, [], ◌∷◌, ◌++◌, Result, Ok, Err, refl, sym, ap, ◌∙◌, subst}
use Rattle.world_search.specs.Systems.{entered, run, reported, IsSettled}

module _ {W E : Type 0} (step : W → ℕ → Result W E) where
  pub run-append : (x : Result W E) (s t : List ℕ) → run step x (s ++ t) ≡ run step (run step x s) t
  run-append x [] t = refl
  run-append x (f ∷ s) t = run-append (entered step x f) s t

  -- a world of S, or a fault of T
  abbrev pub IsOf : (W → Type 0) → (E → Type 0) → Result W E → Type 0
  IsOf S T (Ok w) = S w
  IsOf S T (Err e) = T e

  -- no entry leads out of a closed set, and no schedule does
  pub closed_run : (S : W → Type 0) (T : E → Type 0) → ((w : W) → S w → (f : ℕ) → IsOf S T (step w f)) → (x : Result W E) → IsOf S T x →
      (s : List ℕ) → IsOf S T (run step x s)
  closed_run S T closed x h [] = h
  closed_run S T closed (Ok w) h (f ∷ s) = closed_run S T closed (step w f) (closed w h f) s
  closed_run S T closed (Err e) h (f ∷ s) = closed_run S T closed (Err e) h s

  module _ {R : Type 0} (report : W → R) where
    -- a move keeps the report and stays in the set
    abbrev pub StaysIn : (W → Type 0) → W → Result W E → Type 0
    StaysIn S w (Ok x) = S x × (report x ≡ report w)
    StaysIn S w (Err e) = ⊥

    settled_from : (S : W → Type 0) → ((w : W) → S w → (f : ℕ) → StaysIn S w (step w f)) → (v : W) (x : Result W E) → StaysIn S v x → (s : List ℕ) →
        reported step report (run step x s) ≡ Ok (report v)
    settled_from S each v (Ok w) h [] = ap Ok h.1
    settled_from S each v (Ok w) h (f ∷ s) = settled_from S each w (step w f) (each w h.0 f) s ∙ ap Ok h.1
    settled_from S each v (Err e) h s = absurd h

    -- a set of worlds is settled if each move keeps the report and stays in the set
    pub settled : (S : W → Type 0) → ((w : W) → S w → (f : ℕ) → StaysIn S w (step w f)) → (w : W) → S w → IsSettled step report w
    settled S each w h s = settled_from S each w (Ok w) (h, refl) s

    -- an entry at a settled world leads to a settled world of the same report
    pub settled_next : (w x : W) (f : ℕ) → step w f ≡ Ok x → IsSettled step report w → IsSettled step report x × (report x ≡ report w)
    settled_next w x f e h =
        let same : report x ≡ report w =
        (let q : reported step report (run step (step w f) []) ≡ Ok (report w) = h (f ∷ []) in let r :
        reported step report (run step (Ok x) []) ≡ Ok (report w) = subst (λ y. reported step report (run step y []) ≡ Ok (report w)) e q in cc) in
        (λ s. subst (λ y. reported step report (run step y s) ≡ Ok (report w)) e (h (f ∷ s)) ∙ ap Ok (sym same), same)

    -- at a settled world no entry changes the report
    pub settled_stays : (w : W) (f : ℕ) → IsSettled step report w → reported step report (step w f) ≡ Ok (report w)
    settled_stays w f h = h (f ∷ [])
