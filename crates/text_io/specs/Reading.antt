-- How far a schedule has been read, or written.
use Rattle.std.specs.Prelude.{◌≡◌, ◌<◌, ◌≤◌, ◌⊎◌, ℕ, List, [], ◌∷◌, ◌++◌, get_or, length, take}
use Rattle.std.specs.Fmt.{decimal}
use Rattle.std.specs.List.{All, AllByRecursion}
use Rattle.text_io.specs.Schedule.{Item, IsItem, front_of, entries_of}

-- the text before the rest consists of good items, and these are their entries
pub record HasRead (text rest entries : List ℕ) : Type 0 where
  pub items : List Item
  pub good : AllByRecursion IsItem items
  pub text_is : text ≡ front_of items ++ rest
  pub entries_are : entries ≡ entries_of items
  pub few : length entries ≤ 1000000
  pub some : 0 < length text

-- the text consists of good items with a space behind each, and the rest are the entries behind theirs
pub record HasWritten (text rest entries : List ℕ) : Type 0 where
  pub items : List Item
  pub good : AllByRecursion IsItem items
  pub text_is : text ≡ front_of items
  pub entries_are : entries ≡ entries_of items ++ rest
  pub fibers : All (λ fiber. fiber < 1000) rest
  pub some : 0 < length rest

-- The bytes continue an item behind the number of its fiber, with a space at the given index: the item ends there, or
-- it has `*` and the number of times.
pub record GoesOn (bytes : List ℕ) (times space : ℕ) : Type 0 where
  pub within : space < length bytes
  pub there : get_or bytes space 0 ≡ 32
  pub is : ((times ≡ 1) × (take space bytes ≡ [])) ⊎
      ((0 < times) × (times ≤ 100000) × (take space bytes ≡ 42 ∷ decimal times))
