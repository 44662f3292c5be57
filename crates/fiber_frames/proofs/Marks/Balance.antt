-- The balanced words are those that a stack takes from empty to empty.
use Rattle.fiber_frames.proofs.Prelude.{◌≡◌, ℕ, ◌+◌, ◌≤◌, Bool, true, false, if◌then◌else◌, nat_eq, List, [], ◌∷◌, ◌++◌, Option, Some, None, refl, sym, ap, ◌∙◌}
use Rattle.fiber_frames.proofs.Prelude.{subst, arith, append_assoc, eqb-true, eq-eqb, Bracket_step, IsOpenBalanced, Nested, bracket, empty, times_acquired, two}
use Rattle.fiber_frames.specs.Marks as steps

pub data Held_number : Type 0 where
  Held : ℕ → Held_number
  Freeing : ℕ → Held_number

abbrev pub sign : Bracket_step → List Held_number → Option (List Held_number)
sign (steps.Acquired i) s = Some (Held i ∷ s)
sign (steps.Releasing i) (Held j ∷ s) = if nat_eq i j then Some (Freeing j ∷ s) else None
sign (steps.Releasing i) (Freeing j ∷ s) = None
sign (steps.Releasing i) [] = None
sign (steps.Released i) (Freeing j ∷ s) = if nat_eq i j then Some s else None
sign (steps.Released i) (Held j ∷ s) = None
sign (steps.Released i) [] = None

abbrev pub then_signs : Option (List Held_number) → (List Held_number → Option (List Held_number)) → Option (List Held_number)
then_signs None f = None
then_signs (Some s) f = f s

abbrev pub signs : List Bracket_step → List Held_number → Option (List Held_number)
signs [] s = Some s
signs (x ∷ xs) s = then_signs (sign x s) (signs xs)

signs_step : (a b : List Bracket_step) (o : Option (List Held_number)) →
    ((s : List Held_number) → signs (a ++ b) s ≡ then_signs (signs a s) (signs b)) →
    then_signs o (signs (a ++ b)) ≡ then_signs (then_signs o (signs a)) (signs b)
signs_step a b None h = refl
signs_step a b (Some s) h = h s

signs-append : (a b : List Bracket_step) (s : List Held_number) → signs (a ++ b) s ≡ then_signs (signs a s) (signs b)
signs-append [] b s = refl
signs-append (x ∷ a) b s = signs_step a b (sign x s) (signs-append a b)

going_same : (i : ℕ) (s : List Held_number) → sign (steps.Releasing i) (Held i ∷ s) ≡ Some (Freeing i ∷ s)
going_same i s = ap (λ b. if b then Some (Freeing i ∷ s) else None) (eq-eqb i i refl)

gone_same : (i : ℕ) (s : List Held_number) → sign (steps.Released i) (Freeing i ∷ s) ≡ Some s
gone_same i s = ap (λ b. if b then Some s else None) (eq-eqb i i refl)

-- a balanced word leaves what was open
pub balanced_signs : {a : List Bracket_step} → Nested a → (s : List Held_number) → signs a s ≡ Some s
balanced_signs empty s = refl
balanced_signs (two {a} {b} x y) s = signs-append a b s ∙ ap (λ o. then_signs o (signs b)) (balanced_signs x s) ∙ balanced_signs y s
balanced_signs (bracket {a} {b} i x y) s =
    signs-append a (steps.Releasing i ∷ (b ++ steps.Released i ∷ [])) (Held i ∷ s)
    ∙ ap (λ o. then_signs o (signs (steps.Releasing i ∷ (b ++ steps.Released i ∷ [])))) (balanced_signs x (Held i ∷ s))
    ∙ ap (λ o. then_signs o (signs (b ++ steps.Released i ∷ []))) (going_same i s)
    ∙ signs-append b (steps.Released i ∷ []) (Freeing i ∷ s)
    ∙ ap (λ o. then_signs o (signs (steps.Released i ∷ []))) (balanced_signs y (Freeing i ∷ s))
    ∙ ap (λ o. then_signs o (signs [])) (gone_same i s)

-- what closes a stack, after a word: balanced pieces between the closing signs
abbrev pub Closes : List Held_number → List Bracket_step → Type 0
Closes [] w = Nested w
Closes (Held i ∷ s) w = (a b c : List Bracket_step) × Nested a × Nested b × Closes s c × (w ≡ a ++ steps.Releasing i ∷ (b ++ steps.Released i ∷ c))
Closes (Freeing i ∷ s) w = (b c : List Bracket_step) × Nested b × Closes s c × (w ≡ b ++ steps.Released i ∷ c)

closes_after : (x : List Bracket_step) (s : List Held_number) (w : List Bracket_step) → Nested x → Closes s w → Closes s (x ++ w)
closes_after x [] w b h = two b h
closes_after x (Held i ∷ s) w b h =
    (x ++ h.0, h.1, h.2, two b h.3, h.4, h.5, ap (λ y. x ++ y) h.6 ∙ sym (append_assoc x h.0 (steps.Releasing i ∷ (h.1 ++ steps.Released i ∷ h.2))))
closes_after x (Freeing i ∷ s) w b h = (x ++ h.0, h.1, two b h.2, h.3, ap (λ y. x ++ y) h.4 ∙ sym (append_assoc x h.0 (steps.Released i ∷ h.1)))

-- a word that the stack takes to empty closes it
pub signs_close : (w : List Bracket_step) (s : List Held_number) → signs w s ≡ Some [] → Closes s w
signs_close [] s e = let none : [] ≡ s = cc in subst (λ y. Closes y []) none empty
signs_close (steps.Acquired i ∷ w) s e =
    let h = signs_close w (Held i ∷ s) e in
    let x : List Bracket_step = steps.Acquired i ∷ (h.0 ++ steps.Releasing i ∷ (h.1 ++ steps.Released i ∷ [])) in
    let inner : (h.1 ++ steps.Released i ∷ []) ++ h.2 ≡ h.1 ++ steps.Released i ∷ h.2 = append_assoc h.1 (steps.Released i ∷ []) h.2 in
    let whole : x ++ h.2 ≡ steps.Acquired i ∷ w = ap (λ y. steps.Acquired i ∷ y) (append_assoc h.0 (steps.Releasing i ∷ (h.1 ++ steps.Released i ∷ [])) h.2 ∙
    ap (λ y. h.0 ++ steps.Releasing i ∷ y) inner ∙ sym h.6) in
    subst (λ y. Closes s y) whole (closes_after x s h.2 (bracket i h.3 h.4) h.5)
signs_close (steps.Releasing i ∷ w) (Held j ∷ s) e = going_close i j w s (nat_eq i j) refl e (signs_close w (Freeing j ∷ s))
  where
    going_close : (i j : ℕ) (w : List Bracket_step) (s : List Held_number) (b : Bool) → nat_eq i j ≡ b →
        then_signs (if b then Some (Freeing j ∷ s) else None) (signs w) ≡ Some [] → (signs w (Freeing j ∷ s) ≡ Some [] → Closes (Freeing j ∷ s) w) →
        Closes (Held j ∷ s) (steps.Releasing i ∷ w)
    going_close i j w s true n e f =
        let h = f e in
        let same : i ≡ j = eqb-true i j n in
        ([], h.0, h.1, empty, h.2, h.3, λ k. steps.Releasing (same k) ∷ h.4 k)
    going_close i j w s false n e f = cc
signs_close (steps.Released i ∷ w) (Freeing j ∷ s) e = gone_close i j w s (nat_eq i j) refl e (signs_close w s)
  where
    gone_close : (i j : ℕ) (w : List Bracket_step) (s : List Held_number) (b : Bool) → nat_eq i j ≡ b →
        then_signs (if b then Some s else None) (signs w) ≡ Some [] → (signs w s ≡ Some [] → Closes s w) → Closes (Freeing j ∷ s) (steps.Released i ∷ w)
    gone_close i j w s true n e f = let same : i ≡ j = eqb-true i j n in ([], w, empty, f e, λ k. steps.Released (same k) ∷ w)
    gone_close i j w s false n e f = cc
signs_close _ _ e = cc

pub empty_balanced : (w : List Bracket_step) → signs w [] ≡ Some [] → Nested w
empty_balanced w e = signs_close w [] e

-- a word that the stack follows is the front of a balanced one
closing : List Held_number → List Bracket_step
closing [] = []
closing (Held i ∷ s) = steps.Releasing i ∷ steps.Released i ∷ closing s
closing (Freeing i ∷ s) = steps.Released i ∷ closing s

closing_signs : (s : List Held_number) → signs (closing s) s ≡ Some []
unfolding closing
closing_signs [] = refl
closing_signs (Held i ∷ s) =
    ap (λ o. then_signs o (signs (steps.Released i ∷ closing s))) (going_same i s) ∙ ap (λ o. then_signs o (signs (closing s))) (gone_same i s) ∙
    closing_signs s
closing_signs (Freeing i ∷ s) = ap (λ o. then_signs o (signs (closing s))) (gone_same i s) ∙ closing_signs s

closing_times : (i : ℕ) (s : List Held_number) → times_acquired i (closing s) ≡ 0
unfolding closing
closing_times i [] = refl
closing_times i (Held j ∷ s) = closing_times i s
closing_times i (Freeing j ∷ s) = closing_times i s

pub times_acquired-append : (i : ℕ) (a b : List Bracket_step) → times_acquired i (a ++ b) ≡ times_acquired i a + times_acquired i b
times_acquired-append i [] b = omega arith
times_acquired-append i (steps.Acquired j ∷ a) b = omega (arith, times_acquired-append i a b)
times_acquired-append i (steps.Releasing j ∷ a) b = times_acquired-append i a b
times_acquired-append i (steps.Released j ∷ a) b = times_acquired-append i a b

pub open_balanced : (w : List Bracket_step) (s : List Held_number) → ((i : ℕ) → times_acquired i w ≤ 1) → signs w [] ≡ Some s → IsOpenBalanced w
open_balanced w s once e = (
  closing s,
  (
    empty_balanced (w ++ closing s) (signs-append w (closing s) [] ∙ ap (λ o. then_signs o (signs (closing s))) e ∙ closing_signs s),
    λ i. omega (arith, times_acquired-append i w (closing s), closing_times i s, once i),
  ),
)
