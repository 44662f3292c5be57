-- Rows of numbers, stored one after the other.
use Rattle.std.specs.Prelude.{◌≡◌, ◌-◌, ◌≤◌, ℕ, List, Some, take, drop}
use Rattle.std.specs.List.{slice_get}
use Rattle.every_schedule.specs.declared.rows.Head.{Head}
use Rattle.every_schedule.specs.Private.Numbered.{Numbers}

-- the rows, and the bytes counted for them
pub record Packed : Type 0 where
  pub rows : List Numbers
  pub bytes : ℕ

-- the row of this head, among these numbers
abbrev pub row_of : List ℕ → Head → Numbers
row_of ns h = record { registry = h.registry; fibers = take (h.end - h.begin) (drop h.begin ns) }

-- the numbers of this head are among the first `many`
pub record IsWithin (many : ℕ) (h : Head) : Type 0 where
  pub begins : h.begin ≤ h.end
  pub ends : h.end ≤ many

abbrev pub AreWithin : ℕ → List Head → Type 0
AreWithin many hs = (i : ℕ) (h : Head) → slice_get hs i ≡ Some h → IsWithin many h
