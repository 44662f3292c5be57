-- Elements of lists, and lists that extend others.
use Rattle.std.specs.Prelude.{◌≡◌, ℕ, ◌++◌, List, Some}
use Rattle.std.specs.List.{slice_get}

-- x is an element of the list
abbrev pub IsIn : {A : Type 0} → A → List A → Type 0
IsIn x xs = (i : ℕ) × (slice_get xs i ≡ Some x)

-- the second list extends the first
pub record IsMore {A : Type 0} (xs ys : List A) : Type 0 where
  pub more : List A
  pub is : xs ++ more ≡ ys
