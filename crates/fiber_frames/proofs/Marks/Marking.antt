-- Lists of marks: what is taken, what is on, and the stack of open brackets by their numbers.
use Rattle.fiber_frames.proofs.Prelude.{◌≡◌, ◌≢◌, ◌⊎◌, inl, inr, ℕ, ◌+◌, Bool, true, false, if◌then◌else◌, nat_eq, List, [], ◌∷◌, ◌++◌, Some, None, refl, sym}
use Rattle.fiber_frames.proofs.Prelude.{ap, ◌∙◌, subst, arith, append_assoc, eqb-true, eqb-false, eq-eqb, ◌&&◌, Mask, Pair, Has, IsCutOnce, IsPolled, NoCut}
use Rattle.fiber_frames.proofs.Prelude.{bracket_steps, times_acquired, same_mask, mask_number, Mark}
use Rattle.fiber_frames.proofs.Marks.Balance.{Held_number, signs, then_signs}
use Rattle.fiber_frames.proofs.Marks.Cutting.{is_on, on_after, only}
use Rattle.fiber_frames.proofs.Marks.Keeping.{Own}
use Rattle.fiber_frames.proofs.Marks.Opened.{Freeing, Held, Opened, after_marks, and_then}
use Rattle.fiber_frames.proofs.Marks.Saving.{taken}
use Rattle.fiber_frames.proofs.Marks.Typed.{In, Stack}
use Rattle.fiber_frames.proofs.Marks.Balance as balance

pub taken-append : (i : ℕ) (w : Mask → ℕ) (a b : List Mark) → taken i w (a ++ b) ≡ taken i w a + taken i w b
taken-append i w [] b = omega arith
taken-append i w (Mark.Acquired n ∷ a) b = omega (arith, taken-append i w a b)
taken-append i w (_ ∷ a) b = taken-append i w a b

has_append : (x : Mark) (a b : List Mark) → Has x (a ++ b) → Has x a ⊎ Has x b
has_append x [] b h = inr h
has_append x (y ∷ a) b h = elim h [ inl e ↦ inl (inl e) | inr g ↦ elim (has_append x a b g) [ inl k ↦ inl (inr k) | inr k ↦ inr k ] ]

pub has_middle : (x : Mark) (a b : List Mark) → Has x (a ++ x ∷ b)
has_middle x [] b = inl refl
has_middle x (y ∷ a) b = inr (has_middle x a b)

pub no_cut_append : (a b : List Mark) → NoCut a → NoCut b → NoCut (a ++ b)
no_cut_append a b h g k = elim (has_append Mark.Cut a b k) [ inl x ↦ h x | inr x ↦ g x ]

pub cut_once_more : (ms ns : List Mark) → IsCutOnce ms → NoCut ns → IsCutOnce (ms ++ ns)
cut_once_more ms ns h n = (h.0, h.1 ++ ns, ap (λ y. y ++ ns) h.2 ∙ append_assoc h.0 (Mark.Cut ∷ h.1) ns, h.3, no_cut_append h.1 ns h.4 n, h.5)

pub is_on-append : (m : ℕ) (b : Bool) (xs ys : List Mark) → is_on m b (xs ++ ys) ≡ is_on m (is_on m b xs) ys
is_on-append m b [] ys = refl
is_on-append m b (x ∷ xs) ys = is_on-append m (on_after m x b) xs ys

-- what is off: a poll that is still open, or empty at all
abbrev Off : ℕ → Bool → List Mark → Type 0
Off m b ms = IsPolled m ms ⊎ ((b ≡ false) × (Has (Mark.Enter m) ms → ⊥) × (Has (Mark.PollOut m) ms → ⊥))

off_prefix : (m : ℕ) (x : Mark) (ms : List Mark) → IsPolled m ms → IsPolled m (x ∷ ms)
off_prefix m x ms h = (x ∷ h.0, h.1, ap (λ y. x ∷ y) h.2, h.3)

off_skip : (m : ℕ) (b : Bool) (x : Mark) (ms : List Mark) → x ≢ Mark.Enter m → x ≢ Mark.PollOut m → Off m b ms → Off m b (x ∷ ms)
off_skip m b x ms n l (inl h) = inl (off_prefix m x ms h)
off_skip m b x ms n l (inr h) = inr (h.0, elim [ inl e ↦ n e | inr g ↦ h.1 g ], elim [ inl e ↦ l e | inr g ↦ h.2 g ])

off_entered : (m n : ℕ) (b c : Bool) (ms : List Mark) → nat_eq n m ≡ c → Off m (if c then true else b) ms → Off m b (Mark.Enter n ∷ ms)
off_entered m n b true ms e (inl h) = inl (off_prefix m (Mark.Enter n) ms h)
off_entered m n b true ms e (inr h) = let no : true ≡ false = h.0 in cc
off_entered m n b false ms e h = off_skip m b (Mark.Enter n) ms (λ x. eqb-false n m e (cc)) (λ x. cc) h

off_out : (m n : ℕ) (b c : Bool) (ms : List Mark) → nat_eq n m ≡ c → Off m (if c then true else b) ms → Off m b (Mark.PollOut n ∷ ms)
off_out m n b true ms e (inl h) = inl (off_prefix m (Mark.PollOut n) ms h)
off_out m n b true ms e (inr h) = let no : true ≡ false = h.0 in cc
off_out m n b false ms e h = off_skip m b (Mark.PollOut n) ms (λ x. cc) (λ x. eqb-false n m e (cc)) h

off_in : (m n : ℕ) (b c : Bool) (ms : List Mark) → nat_eq n m ≡ c → Off m (if c then false else b) ms → Off m b (Mark.PollIn n ∷ ms)
off_in m n b true ms e (inl h) = inl (off_prefix m (Mark.PollIn n) ms h)
off_in m n b true ms e (inr h) = let same : n ≡ m = eqb-true n m e in inl ([], ms, ap (λ k. Mark.PollIn k ∷ ms) same, h.2)
off_in m n b false ms e h = off_skip m b (Mark.PollIn n) ms (λ x. cc) (λ x. cc) h

off_left : (m n : ℕ) (b c : Bool) (ms : List Mark) → nat_eq n m ≡ c → (Has (Mark.Leave m) (Mark.Leave n ∷ ms) → ⊥) →
    Off m (if c then false else b) ms → Off m b (Mark.Leave n ∷ ms)
off_left m n b true ms e u h = absurd (u (inl (ap Mark.Leave (eqb-true n m e))))
off_left m n b false ms e u h = off_skip m b (Mark.Leave n) ms (λ x. cc) (λ x. cc) h

off : (m : ℕ) (b : Bool) (ms : List Mark) → (Has (Mark.Leave m) ms → ⊥) → is_on m b ms ≡ false → Off m b ms
off m b [] u e = inr (e, (λ h. h), (λ h. h))
off m b (Mark.Enter n ∷ ms) u e = off_entered m n b (nat_eq n m) ms refl (off m (if nat_eq n m then true else b) ms (λ h. u (inr h)) e)
off m b (Mark.Leave n ∷ ms) u e = off_left m n b (nat_eq n m) ms refl u (off m (if nat_eq n m then false else b) ms (λ h. u (inr h)) e)
off m b (Mark.PollIn n ∷ ms) u e = off_in m n b (nat_eq n m) ms refl (off m (if nat_eq n m then false else b) ms (λ h. u (inr h)) e)
off m b (Mark.PollOut n ∷ ms) u e = off_out m n b (nat_eq n m) ms refl (off m (if nat_eq n m then true else b) ms (λ h. u (inr h)) e)
off m b (Mark.Say n ∷ ms) u e = off_skip m b (Mark.Say n) ms (λ x. cc) (λ x. cc) (off m b ms (λ h. u (inr h)) e)
off m b (Mark.Cut ∷ ms) u e = off_skip m b Mark.Cut ms (λ x. cc) (λ x. cc) (off m b ms (λ h. u (inr h)) e)
off m b (Mark.Acquired n ∷ ms) u e = off_skip m b (Mark.Acquired n) ms (λ x. cc) (λ x. cc) (off m b ms (λ h. u (inr h)) e)
off m b (Mark.Releasing n ∷ ms) u e = off_skip m b (Mark.Releasing n) ms (λ x. cc) (λ x. cc) (off m b ms (λ h. u (inr h)) e)
off m b (Mark.Released n ∷ ms) u e = off_skip m b (Mark.Released n) ms (λ x. cc) (λ x. cc) (off m b ms (λ h. u (inr h)) e)
off m b (Mark.Dropped n ∷ ms) u e = off_skip m b (Mark.Dropped n) ms (λ x. cc) (λ x. cc) (off m b ms (λ h. u (inr h)) e)

not_true : (b : Bool) → (b ≡ true → ⊥) → b ≡ false
not_true true h = absurd (h refl)
not_true false h = refl

-- a mask that is entered, not left and not on is polled
pub off_polled : (m : ℕ) (ms : List Mark) → (is_on m false ms ≡ true → ⊥) → Has (Mark.Enter m) ms → (Has (Mark.Leave m) ms → ⊥) → IsPolled m ms
off_polled m ms h e u = elim (off m false ms u (not_true (is_on m false ms) h)) [ inl p ↦ p | inr g ↦ absurd (g.1 e) ]

-- ---- the stack on numbers
abbrev pub slot_of : Opened → Held_number
slot_of (Held q) = balance.Held (mask_number q)
slot_of (Freeing q) = balance.Freeing (mask_number q)

abbrev pub slots : Stack → List Held_number
slots [] = []
slots (o ∷ s) = slot_of o ∷ slots s

same_number : (i m : ℕ) (q : Mask) → Own i q → same_mask (Pair i m) q ≡ nat_eq m (mask_number q)
same_number i m q h = ap (same_mask (Pair i m)) h.1 ∙ ap (λ b. b && nat_eq m h.0) (eq-eqb i i refl) ∙ ap (λ y. nat_eq m (mask_number y)) (sym h.1)

pub on_numbers : (i : ℕ) (ms : List Mark) (s t : Stack) → In (Own i) s → after_marks i ms s ≡ Some t → signs (bracket_steps ms) (slots s) ≡ Some (slots t)
on_numbers i [] s t o e = let same : s ≡ t = cc in ap (λ y. Some (slots y)) same
on_numbers i (Mark.Acquired m ∷ ms) s t o e = on_numbers i ms (Held (Pair i m) ∷ s) t ((m, refl), o) e
on_numbers i (Mark.Releasing m ∷ ms) [] t o e = cc
on_numbers i (Mark.Releasing m ∷ ms) (Freeing p ∷ s) t o e = cc
on_numbers i (Mark.Releasing m ∷ ms) (Held p ∷ s) t o e =
    subst (λ b. then_signs (if b then Some (balance.Freeing (mask_number p) ∷ slots s) else None) (signs (bracket_steps ms)) ≡ Some (slots t))
    (same_number i m p o.0)
    (go (on_numbers i ms (Freeing p ∷ s) t o) (same_mask (Pair i m) p) e)
  where
    go : (after_marks i ms (Freeing p ∷ s) ≡ Some t → signs (bracket_steps ms) (balance.Freeing (mask_number p) ∷ slots s) ≡ Some (slots t)) →
        (b : Bool) → and_then (if b then Some (Freeing p ∷ s) else None) (after_marks i ms) ≡ Some t →
        then_signs (if b then Some (balance.Freeing (mask_number p) ∷ slots s) else None) (signs (bracket_steps ms)) ≡ Some (slots t)
    go f true e = f e
    go f false e = cc
on_numbers i (Mark.Released m ∷ ms) [] t o e = cc
on_numbers i (Mark.Released m ∷ ms) (Held p ∷ s) t o e = cc
on_numbers i (Mark.Released m ∷ ms) (Freeing p ∷ s) t o e =
    subst (λ b. then_signs (if b then Some (slots s) else None) (signs (bracket_steps ms)) ≡ Some (slots t)) (same_number i m p o.0)
    (go (on_numbers i ms s t o.1) (same_mask (Pair i m) p) e)
  where
    go : (after_marks i ms s ≡ Some t → signs (bracket_steps ms) (slots s) ≡ Some (slots t)) → (b : Bool) →
        and_then (if b then Some s else None) (after_marks i ms) ≡ Some t →
        then_signs (if b then Some (slots s) else None) (signs (bracket_steps ms)) ≡ Some (slots t)
    go f true e = f e
    go f false e = cc
on_numbers i (_ ∷ ms) s t o e = on_numbers i ms s t o e

pub times_taken : (i m : ℕ) (ms : List Mark) → times_acquired m (bracket_steps ms) ≡ taken i (only (Pair i m)) ms
times_taken i m [] = refl
times_taken i m (Mark.Acquired n ∷ ms) =
    let one : (if nat_eq n m then 1 else 0) ≡ only (Pair i m) (Pair i n) = ap (λ b. if b && nat_eq n m then 1 else 0) (sym (eq-eqb i i refl)) in
    omega (arith, one, times_taken i m ms)
times_taken i m (_ ∷ ms) = times_taken i m ms
