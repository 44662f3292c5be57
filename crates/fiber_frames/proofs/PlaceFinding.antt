-- The place of a number is where it stands first.
use Rattle.fiber_frames.proofs.Prelude.{◌≡◌, ◌<◌, ℕ, zero, suc, ◌+◌, Bool, if◌then◌else◌, List, [], ◌∷◌, get_or, length, refl, sym, ap, ◌∙◌, arith, eq-eqb}
use Rattle.fiber_frames.proofs.Prelude.{ne_eqb, one_on, place_in}

pub place_none : (ms : List ℕ) (m : ℕ) → ((k : ℕ) → k < length ms → get_or ms k 0 ≡ m → ⊥) → 0 ≡ place_in ms m
place_none [] m h = refl
place_none (n ∷ ms) m h =
    let rest : 0 ≡ place_in ms m = place_none ms m (λ k l e. h (suc k) (omega arith) e) in
    ap one_on rest ∙ sym (ap (λ (t : Bool). if t then 1 else one_on (place_in ms m)) (ne_eqb m n (λ e. h 0 (omega arith) (sym e))))

pub place_found : (ms : List ℕ) (i m : ℕ) → i < length ms → get_or ms i 0 ≡ m → ((k : ℕ) → k < i → get_or ms k 0 ≡ m → ⊥) → i + 1 ≡ place_in ms m
place_found [] i m l e h = absurd (omega arith)
place_found (n ∷ ms) zero m l e h = sym (ap (λ (t : Bool). if t then 1 else one_on (place_in ms m)) (eq-eqb m n (sym e)))
place_found (n ∷ ms) (suc i) m l e h =
    let rest : i + 1 ≡ place_in ms m = place_found ms i m (omega arith) e (λ k low q. h (suc k) (omega arith) q) in
    let one : suc i + 1 ≡ one_on (suc i) = omega arith in
    let next : suc i ≡ i + 1 = omega arith in
    one ∙ ap one_on (next ∙ rest) ∙ sym (ap (λ (t : Bool). if t then 1 else one_on (place_in ms m)) (ne_eqb m n (λ q. h 0 (omega arith) (sym q))))
