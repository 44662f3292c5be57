-- The acquire marks that a term may still make.
use Rattle.fiber_frames.proofs.Prelude.{◌≡◌, ◌≢◌, ℕ, ◌+◌, ◌≤◌, Bool, true, false, if◌then◌else◌, nat_eq, refl, sym, subst, arith, eqb-true, eq-eqb, ◌&&◌, ℤ}
use Rattle.fiber_frames.proofs.Prelude.{Put, Put_handle, Put_mask, Put_value, mask_at, put, Acquired, Guarded, Handled, If0, Join, Let, Loop, Make, Mask}
use Rattle.fiber_frames.proofs.Prelude.{Masked, Named, Note, On_cancel, Pair, Poll, Polled, Seq, Start, Tree, Uncancelable, same_mask}
use Rattle.fiber_frames.proofs.Marks.Cutting.{only, spends}

pub spends_put : (t : Tree) (p : Put) (w u : Mask → ℕ) → ((x : Mask) → w (mask_at p x) ≤ u x) → spends w (put p t) ≤ spends u t
spends_put (Note Acquired q) p w u h = h q
spends_put (Let e v b) p w u h = omega (arith, spends_put e p w u h, spends_put b p w u h)
spends_put (Seq o e b) p w u h = omega (arith, spends_put e p w u h, spends_put b p w u h)
spends_put (Handled e v b) p w u h = omega (arith, spends_put e p w u h, spends_put b p w u h)
spends_put (If0 v e b) p w u h = omega (arith, spends_put e p w u h, spends_put b p w u h)
spends_put (Join f v b y c e) p w u h = omega (arith, spends_put b p w u h, spends_put c p w u h, spends_put e p w u h)
spends_put (Make m v b) p w u h = spends_put b p w u h
spends_put (Start v e b) p w u h = omega (arith, spends_put e p w u h, spends_put b p w u h)
spends_put (Loop m e) p w u h = omega (arith, spends_put e p w u h)
spends_put (Uncancelable v e) p w u h = spends_put e p w u h
spends_put (Poll q e) p w u h = spends_put e p w u h
spends_put (On_cancel e b) p w u h = omega (arith, spends_put e p w u h, spends_put b p w u h)
spends_put (Masked m e) p w u h = spends_put e p w u h
spends_put (Polled q e) p w u h = spends_put e p w u h
spends_put (Guarded e b) p w u h = omega (arith, spends_put e p w u h, spends_put b p w u h)
spends_put _ p w u h = omega arith

pub spends_add : (t : Tree) (w u : Mask → ℕ) → spends (λ x. w x + u x) t ≡ spends w t + spends u t
spends_add (Note Acquired q) w u = refl
spends_add (Let e v b) w u = omega (arith, spends_add e w u, spends_add b w u)
spends_add (Seq o e b) w u = omega (arith, spends_add e w u, spends_add b w u)
spends_add (Handled e v b) w u = omega (arith, spends_add e w u, spends_add b w u)
spends_add (If0 v e b) w u = omega (arith, spends_add e w u, spends_add b w u)
spends_add (Join f v b y c e) w u = omega (arith, spends_add b w u, spends_add c w u, spends_add e w u)
spends_add (Make m v b) w u = spends_add b w u
spends_add (Start v e b) w u = omega (arith, spends_add e w u, spends_add b w u)
spends_add (Loop m e) w u = omega (arith, spends_add e w u)
spends_add (Uncancelable v e) w u = spends_add e w u
spends_add (Poll q e) w u = spends_add e w u
spends_add (On_cancel e b) w u = omega (arith, spends_add e w u, spends_add b w u)
spends_add (Masked m e) w u = spends_add e w u
spends_add (Polled q e) w u = spends_add e w u
spends_add (Guarded e b) w u = omega (arith, spends_add e w u, spends_add b w u)
spends_add _ w u = refl

-- a put that gives no slot a new use
abbrev pub Runtime : Put → Type 0
Runtime p = (v : ℕ) (x : Mask) → only (Named v) (mask_at p x) ≤ only (Named v) x

pub value_runtime : (s : ℕ) (z : ℤ) → Runtime (Put_value s z)
value_runtime s z t (Named u) = omega arith
value_runtime s z t (Pair f m) = omega arith

pub handle_runtime : (s n : ℕ) → Runtime (Put_handle s n)
handle_runtime s n t (Named u) = omega arith
handle_runtime s n t (Pair f m) = omega arith

pub mask_runtime : (s f m : ℕ) → Runtime (Put_mask s f m)
mask_runtime s f m t (Pair g n) = omega arith
mask_runtime s f m t (Named u) = go (nat_eq s u)
  where
    go : (b : Bool) → (if same_mask (if b then Pair f m else Named u) (Named t) then 1 else 0) ≤ (if nat_eq u t then 1 else 0)
    go true = omega arith
    go false = omega arith

pub pairs_differ : (f m g n : ℕ) → Pair f m ≢ Pair g n → same_mask (Pair f m) (Pair g n) ≡ false
pairs_differ f m g n h = go (nat_eq f g) (nat_eq m n) refl refl
  where
    go : (b c : Bool) → nat_eq f g ≡ b → nat_eq m n ≡ c → (b && c) ≡ false
    go true true e d = absurd (h (λ j. Pair (eqb-true f g e j) (eqb-true m n d j)))
    go true false e d = refl
    go false c e d = refl

-- an older mask under the put of another one
pub other_weight : (v f m g n : ℕ) → Pair g n ≢ Pair f m → (x : Mask) → only (Pair f m) (mask_at (Put_mask v g n) x) ≤ only (Pair f m) x
other_weight v f m g n h (Pair a b) = omega arith
other_weight v f m g n h (Named u) = go (nat_eq v u)
  where
    go : (b : Bool) → (if same_mask (if b then Pair g n else Named u) (Pair f m) then 1 else 0) ≤ 0
    go true = subst (λ y. (if y then 1 else 0) ≤ 0) (sym (pairs_differ g n f m h)) (omega arith)
    go false = omega arith

-- the new mask itself
new_weight : (v f m : ℕ) (x : Mask) → only (Pair f m) (mask_at (Put_mask v f m) x) ≤ only (Named v) x + only (Pair f m) x
new_weight v f m (Pair a b) = omega arith
new_weight v f m (Named u) = go (nat_eq v u) refl
  where
    go : (b : Bool) → nat_eq v u ≡ b → (if same_mask (if b then Pair f m else Named u) (Pair f m) then 1 else 0) ≤ (if nat_eq u v then 1 else 0) + 0
    go true e =
        subst (λ c. (if same_mask (Pair f m) (Pair f m) then 1 else 0) ≤ (if c then 1 else 0) + 0) (sym (eq-eqb u v (sym (eqb-true v u e))))
        (elim (same_mask (Pair f m) (Pair f m)) as (λ b. (if b then 1 else 0) ≤ 1 + 0) [ true ↦ omega arith | false ↦ omega arith ])
    go false e = omega arith

pub spends_new : (v f m : ℕ) (t : Tree) → spends (only (Pair f m)) (put (Put_mask v f m) t) ≤ spends (only (Named v)) t + spends (only (Pair f m)) t
spends_new v f m t = omega (
  arith,
  spends_put t (Put_mask v f m) (only (Pair f m)) (λ x. only (Named v) x + only (Pair f m) x) (new_weight v f m),
  spends_add t (only (Named v)) (only (Pair f m)),
)

-- puts of values and of handles
pub spends_value : (s : ℕ) (z : ℤ) (w : Mask → ℕ) (t : Tree) → spends w (put (Put_value s z) t) ≤ spends w t
spends_value s z w t = spends_put t (Put_value s z) w w quiet
  where
    quiet : (x : Mask) → w (mask_at (Put_value s z) x) ≤ w x
    quiet (Named u) = omega arith
    quiet (Pair f m) = omega arith

pub spends_handle : (s n : ℕ) (w : Mask → ℕ) (t : Tree) → spends w (put (Put_handle s n) t) ≤ spends w t
spends_handle s n w t = spends_put t (Put_handle s n) w w quiet
  where
    quiet : (x : Mask) → w (mask_at (Put_handle s n) x) ≤ w x
    quiet (Named u) = omega arith
    quiet (Pair f m) = omega arith
