-- The places of masks: each of those that are listed has one of its own, and who is renumbered so keeps the places.
use Rattle.fiber_frames.proofs.Prelude.{◌≡◌, ◌≢◌, ◌<◌, ℕ, zero, suc, Bool, true, false, if◌then◌else◌, nat_eq, List, [], ◌∷◌, ◌++◌, length, map, refl, sym, ap}
use Rattle.fiber_frames.proofs.Prelude.{ap₂, ◌∙◌, subst, arith, ◌&&◌, eq-eqb, eqb-false, eqb-true, ne_eqb, length-map, Mask, Named, Pair, Look, Running}
use Rattle.fiber_frames.proofs.Prelude.{same_mask, Fiber, mask_to, masks_of, one_on, own_place, place_in, placed_in, run_renumbered, run_unmarked, unmarked}
use Rattle.fiber_frames.proofs.Composing.{both, masks_of_to, run_twice, same_to}
use Rattle.fiber_frames.proofs.Renumbering.{Each}

pub each_map : {A : Type 0} (P R : A → Type 0) → ((x : A) → P x → R x) → (xs : List A) → Each P xs → Each R xs
each_map P R f [] h = tt
each_map P R f (x ∷ xs) h = (f x h.0, each_map P R f xs h.1)

pub each_append : {A : Type 0} (P : A → Type 0) (xs ys : List A) → Each P xs → Each P ys → Each P (xs ++ ys)
each_append P [] ys h k = k
each_append P (x ∷ xs) ys h k = (h.0, each_append P xs ys h.1 k)

-- ---- places
on_positive : (j : ℕ) → 0 < j → 0 < one_on j
on_positive zero h = absurd (omega arith)
on_positive (suc j) h = omega arith

on_back : (j : ℕ) → 0 < one_on j → 0 < j
on_back zero h = absurd (omega arith)
on_back (suc j) h = omega arith

on_same : (j k : ℕ) → one_on j ≡ one_on k → j ≡ k
on_same zero zero e = refl
on_same zero (suc k) e = absurd (omega (arith, e))
on_same (suc j) zero e = absurd (omega (arith, e))
on_same (suc j) (suc k) e = omega (arith, e)

on_one : (j : ℕ) → one_on j ≢ 1
on_one zero e = absurd (omega (arith, e))
on_one (suc j) e = absurd (omega (arith, e))

abbrev pub HasPlace : List ℕ → ℕ → Type 0
HasPlace ms a = 0 < place_in ms a

pub all_placed : (ms : List ℕ) → Each (HasPlace ms) ms
all_placed [] = tt
all_placed (b ∷ ms) = (head, each_map (HasPlace ms) (HasPlace (b ∷ ms)) later ms (all_placed ms))
  where
    head : HasPlace (b ∷ ms) b
    head = subst (λ (t : Bool). 0 < (if t then 1 else one_on (place_in ms b))) (sym (eq-eqb b b refl)) (omega arith)

    later : (a : ℕ) → HasPlace ms a → HasPlace (b ∷ ms) a
    later a h = elim (nat_eq a b) as (λ t. 0 < (if t then 1 else one_on (place_in ms a))) [ true ↦ omega arith | false ↦ on_positive (place_in ms a) h ]

pub one_place : (ms : List ℕ) (m a : ℕ) → HasPlace ms a → place_in ms m ≡ place_in ms a → m ≡ a
one_place [] m a h e = absurd (omega arith)
one_place (b ∷ ms) m a h e = go (one_place ms m a) (nat_eq m b) refl (nat_eq a b) refl h e
  where
    go : (HasPlace ms a → place_in ms m ≡ place_in ms a → m ≡ a) → (s : Bool) → nat_eq m b ≡ s → (t : Bool) → nat_eq a b ≡ t →
        0 < (if t then 1 else one_on (place_in ms a)) → ◌≡◌ {A = ℕ} (if s then 1 else one_on (place_in ms m)) (if t then 1 else one_on (place_in ms a)) → m ≡ a
    go rest true p true q h e = eqb-true m b p ∙ sym (eqb-true a b q)
    go rest true p false q h e = absurd (on_one (place_in ms a) (sym e))
    go rest false p true q h e = absurd (on_one (place_in ms m) e)
    go rest false p false q h e = rest (on_back (place_in ms a) h) (on_same (place_in ms m) (place_in ms a) e)

place_eq : (ms : List ℕ) (m a : ℕ) → HasPlace ms a → nat_eq (place_in ms m) (place_in ms a) ≡ nat_eq m a
place_eq ms m a h = go (nat_eq m a) refl
  where
    go : (t : Bool) → nat_eq m a ≡ t → nat_eq (place_in ms m) (place_in ms a) ≡ t
    go true e = eq-eqb (place_in ms m) (place_in ms a) (ap (place_in ms) (eqb-true m a e))
    go false e = ne_eqb (place_in ms m) (place_in ms a) (λ q. eqb-false m a e (one_place ms m a h q))

-- ---- numbers of one fiber
-- no other mask of any fiber gets the number of mask a
abbrev pub Faithful : ℕ → (ℕ → ℕ → ℕ) → ℕ → Type 0
Faithful i number a = (g m : ℕ) → nat_eq (number g m) (number i a) ≡ nat_eq g i && nat_eq m a

own_here : (i : ℕ) (ms : List ℕ) (a : ℕ) → own_place i ms i a ≡ place_in ms a
own_here i ms a = ap (λ (t : Bool). if t then place_in ms a else 0) (eq-eqb i i refl)

pub placed_faithful : (i : ℕ) (ms : List ℕ) (a : ℕ) → HasPlace ms a → Faithful i (own_place i ms) a
placed_faithful i ms a h g m =
    ap (nat_eq (own_place i ms g m)) (own_here i ms a)
    ∙ elim (nat_eq g i) as (λ t. nat_eq (if t then place_in ms m else 0) (place_in ms a) ≡ t && nat_eq m a) [
      | true ↦ place_eq ms m a h
      | false ↦ ne_eqb 0 (place_in ms a) (λ e. absurd (omega (arith, h, e)))
    ]

module _ (i : ℕ) (number : ℕ → ℕ → ℕ) where
  abbrev pub all_own : ℕ → ℕ → Mask
  all_own g m = Pair i (number g m)

  pub faithful_kept : (a : ℕ) → Faithful i number a → (q : Mask) → same_mask (mask_to i all_own q) (all_own i a) ≡ same_mask q (Pair i a)
  faithful_kept a h (Named s) = refl
  faithful_kept a h (Pair g m) = ap (λ (t : Bool). t && nat_eq (number g m) (number i a)) (eq-eqb i i refl) ∙ h g m

  place_to : (ms : List ℕ) → Each (Faithful i number) ms → (g m : ℕ) → place_in (map (number i) ms) (number g m) ≡ own_place i ms g m
  place_to [] h g m = elim (nat_eq g i) as (λ t. ◌≡◌ {A = ℕ} 0 (if t then 0 else 0)) [ true ↦ refl | false ↦ refl ]
  place_to (a ∷ ms) h g m =
      ap (λ (t : Bool). if t then 1 else one_on (place_in (map (number i) ms) (number g m))) (h.0 g m)
      ∙ ap (λ (j : ℕ). if nat_eq g i && nat_eq m a then 1 else one_on j) (place_to ms h.1 g m)
      ∙ elim (nat_eq g i) as (λ t. ◌≡◌ {A = ℕ} (if t && nat_eq m a then 1 else one_on (if t then place_in ms m else 0))
      (if t then (if nat_eq m a then 1 else one_on (place_in ms m)) else 0)) [ true ↦ refl | false ↦ refl ]

  -- the places stay
  run_places : (w : Running) → Each (Faithful i number) (masks_of w) → run_unmarked i (run_renumbered i all_own w) ≡ run_unmarked i w
  run_places w h =
      let ms = map (number i) (masks_of w) in
      ap (λ (l : List ℕ). run_renumbered i (placed_in i l) (run_renumbered i all_own w)) (masks_of_to i all_own w)
      ∙ run_twice i i all_own (placed_in i ms) (λ m. refl) w
      ∙ ap (λ (to : ℕ → ℕ → Mask). run_renumbered i to w) (same_to (both i i all_own (placed_in i ms)) (placed_in i (masks_of w))
      (λ g m. ap (Pair i) (own_here i ms (number g m) ∙ place_to (masks_of w) h g m)))

  many_to : (w : Running) → length (masks_of (run_renumbered i all_own w)) ≡ length (masks_of w)
  many_to w = ap (length {A = ℕ}) (masks_of_to i all_own w) ∙ length-map (masks_of w) (number i)

-- so fibers that differ in such numbers, in marks and in their next number are one without marks
pub same_unmarked : (a b : Fiber) (number : ℕ → ℕ → ℕ) → Each (Faithful a.number number) (masks_of a.running) → b.number ≡ a.number →
    b.running ≡ run_renumbered a.number (all_own a.number number) a.running → b.look ≡ a.look → unmarked b ≡ unmarked a
unfolding unmarked
same_unmarked a b number h n w l =
    let make : ℕ → Running → Look → ℕ → Fiber = λ i w l k. record { number = i; running = w; look = l; next = k; marks = [] } in
    ap (λ (i : ℕ). make i (run_unmarked i b.running) b.look (suc (length (masks_of b.running)))) n
    ∙ ap (λ (w : Running). make a.number (run_unmarked a.number w) b.look (suc (length (masks_of w)))) w
    ∙ ap (λ (l : Look). make a.number (run_unmarked a.number (run_renumbered a.number (all_own a.number number) a.running)) l
    (suc (length (masks_of (run_renumbered a.number (all_own a.number number) a.running))))) l
    ∙ ap₂ (λ (w : Running) (k : ℕ). make a.number w a.look (suc k)) (run_places a.number number a.running h) (many_to a.number number a.running)

-- one more mask
pub place_other : (ms : List ℕ) (n m : ℕ) → m ≢ n → place_in (ms ++ n ∷ []) m ≡ place_in ms m
place_other [] n m ne = ap (λ (t : Bool). if t then 1 else 0) (ne_eqb m n ne)
place_other (b ∷ ms) n m ne = ap (λ (j : ℕ). if nat_eq m b then 1 else one_on j) (place_other ms n m ne)

pub place_last : (ms : List ℕ) (n : ℕ) → Each (λ a. n ≢ a) ms → place_in (ms ++ n ∷ []) n ≡ suc (length ms)
place_last [] n h = ap (λ (t : Bool). if t then 1 else 0) (eq-eqb n n refl)
place_last (b ∷ ms) n h = ap (λ (t : Bool). if t then 1 else one_on (place_in (ms ++ n ∷ []) n)) (ne_eqb n b h.0) ∙ ap one_on (place_last ms n h.1)
