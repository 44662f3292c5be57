-- Spellings that are compared byte by byte.
use Rattle.std.proofs.{Common.{◌≡◌, ◌<◌, ℕ, Bool, true, false, List, length, get_or, refl, ap, sym}, lemmas.Grind.same_number_lists}
use Rattle.std.{proofs.lemmas.Slice.Eq.bytes_eq-Decides, specs.Str.bytes_eq}

no_equal : (x y : List ℕ) (b : Bool) → bytes_eq x y ≡ b → (x ≡ y → ⊥) → b ≡ false
no_equal x y true e h = absurd (h ((bytes_eq-Decides x y).0 e))
no_equal x y false e h = refl

pub other_length : (x y : List ℕ) → (length x ≡ length y → ⊥) → false ≡ bytes_eq x y
other_length x y h = sym (no_equal x y (bytes_eq x y) refl (λ e. h (ap (λ z. length z) e)))

pub other_byte : (x y : List ℕ) (i : ℕ) → (get_or x i 0 ≡ get_or y i 0 → ⊥) → false ≡ bytes_eq x y
other_byte x y i h = sym (no_equal x y (bytes_eq x y) refl (λ e. h (ap (λ z. get_or z i 0) e)))

pub same_bytes : (x y : List ℕ) → length x ≡ length y →
    ((k : ℕ) → k < length x → get_or x k 0 ≡ get_or y k 0) → true ≡ bytes_eq x y
same_bytes x y l h = sym ((bytes_eq-Decides x y).1 (same_number_lists x y l h))
