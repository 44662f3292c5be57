-- Names, byte by byte.
use Rattle.std.proofs.Common.{◌≡◌, ◌<◌, ◌≤◌, ◌+◌, ◌&&◌, ℕ, true, false, List, [], ◌∷◌, length, get_or, drop, refl, ap, ◌∙◌, add-one, drop-cons, arith}
use Rattle.std.proofs.lemmas.Grind.{common_steps}
use Rattle.model_text.specs.Words.{all_go_on, goes_on}

drop_next : (bs : List ℕ) (i : ℕ) → i < length bs → drop i bs ≡ get_or bs i 0 ∷ drop (i + 1) bs
drop_next bs i h = rw add-one (drop-cons bs i 0 h)

pub goes_on_false : (bs : List ℕ) (i : ℕ) → i < length bs → goes_on (get_or bs i 0) ≡ false → all_go_on (drop i bs) ≡ false
goes_on_false bs i h g = ap all_go_on (drop_next bs i h) ∙ ap (λ b. b && all_go_on (drop (i + 1) bs)) g

pub goes_on_all : (bs : List ℕ) (i : ℕ) → length bs ≤ i → all_go_on (drop i bs) ≡ true
goes_on_all bs i h = let d : drop i bs ≡ [] = grind (arith, common_steps) in rw d refl
