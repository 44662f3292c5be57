-- Lists of which one element is set.
use Rattle.std.proofs.Common.{◌≡◌, ℕ, zero, suc, List, [], ◌∷◌, get_or, set, refl, replicate}

-- what holds of the element and of each other one
pub All-set : {A : Type 0} (P : A → Type 0) (l : List A) (i : ℕ) (c d : A) → P c → ((j : ℕ) → P (get_or l j d)) → (j : ℕ) → P (get_or (set l i c) j d)
All-set P [] i c d pc h j = h j
All-set P (x ∷ xs) zero c d pc h zero = pc
All-set P (x ∷ xs) zero c d pc h (suc j) = h (suc j)
All-set P (x ∷ xs) (suc i) c d pc h zero = h zero
All-set P (x ∷ xs) (suc i) c d pc h (suc j) = All-set P xs i c d pc (λ m. h (suc m)) j

-- what the new element has of the old one
pub get_or-set_kept : {A B : Type 0} (g : A → B) (l : List A) (i : ℕ) (c d : A) → g c ≡ g (get_or l i d) → (j : ℕ) →
    g (get_or (set l i c) j d) ≡ g (get_or l j d)
get_or-set_kept g [] i c d e j = refl
get_or-set_kept g (x ∷ xs) zero c d e zero = e
get_or-set_kept g (x ∷ xs) zero c d e (suc j) = refl
get_or-set_kept g (x ∷ xs) (suc i) c d e zero = refl
get_or-set_kept g (x ∷ xs) (suc i) c d e (suc j) = get_or-set_kept g xs i c d e j

-- copies of the default
pub get_or-replicate_default : {A : Type 0} (x : A) (n i : ℕ) → get_or (replicate n x) i x ≡ x
get_or-replicate_default x zero i = refl
get_or-replicate_default x (suc n) zero = refl
get_or-replicate_default x (suc n) (suc i) = get_or-replicate_default x n i
