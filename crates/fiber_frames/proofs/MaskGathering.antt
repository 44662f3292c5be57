-- The masks of frames, gathered one frame after another.
use Rattle.fiber_frames.proofs.Prelude.{◌≡◌, ◌<◌, ℕ, zero, suc, ◌+◌, List, [], ◌∷◌, ◌++◌, get_or, length, take, refl, sym, ap, ◌∙◌, arith, append_assoc, Frame}
use Rattle.fiber_frames.proofs.Prelude.{numbers_in}

before : (f : Frame) (xs : List Frame) → numbers_in (f ∷ xs) ≡ numbers_in (f ∷ []) ++ numbers_in xs
before (Frame.Let k n) xs = refl
before _ xs = refl

taken : (fs : List Frame) (i : ℕ) (d : Frame) → i < length fs → numbers_in (take (suc i) fs) ≡ numbers_in (take i fs) ++ numbers_in (get_or fs i d ∷ [])
taken [] i d l = absurd (omega arith)
taken (f ∷ fs) zero d l = refl
taken (f ∷ fs) (suc i) d l =
    before f (take (suc i) fs) ∙ ap (λ (k : List ℕ). numbers_in (f ∷ []) ++ k) (taken fs i d (omega arith)) ∙
    sym (append_assoc (numbers_in (f ∷ [])) (numbers_in (take i fs)) (numbers_in (get_or fs i d ∷ []))) ∙
    ap (λ (k : List ℕ). k ++ numbers_in (get_or fs i d ∷ [])) (sym (before f (take i fs)))

-- one frame more
pub masks_next : (fs : List Frame) (i : ℕ) (d : Frame) (start now next : List ℕ) → i < length fs → next ≡ now ++ numbers_in (get_or fs i d ∷ []) →
    now ≡ start ++ numbers_in (take i fs) → next ≡ start ++ numbers_in (take (i + 1) fs)
masks_next fs i d start now next l e h =
    let more : suc i ≡ i + 1 = omega arith in
    e ∙ ap (λ (k : List ℕ). k ++ numbers_in (get_or fs i d ∷ [])) h
    ∙ append_assoc start (numbers_in (take i fs)) (numbers_in (get_or fs i d ∷ []))
    ∙ ap (λ (k : List ℕ). start ++ k) (sym (taken fs i d l) ∙ ap (λ (j : ℕ). numbers_in (take j fs)) more)
