-- What holds between any two steps: one legal history leaves exactly the words, and each pass knows its part of the
-- history.
use Rattle.std.specs.Prelude.{◌≡◌, ◌≢◌, ℕ, ◌<◌, ◌≤◌, List, [], ◌∷◌, ◌⊎◌, slice_index_or, Option, Some, None}
use mathlib.Core.Option.{some}
use mathlib.Core.List.{IsPrefix}
use lib.ListN.{get_elem?}
use Rattle.atomic_table.specs.Table.{State}
use Rattle.cell_registry.specs.declared.limits.Limits.{Limits}
use Rattle.cell_registry.specs.declared.cell.Cell.{Cell}
use Rattle.cell_registry.specs.declared.call.Entry.{Entry}
use Rattle.cell_registry.specs.declared.knowledge.Knowledge.{Knowledge}
use Rattle.cell_registry.specs.Cells.{AreLimits, IsOpen, cell_of, owned}
use Rattle.cell_registry.specs.Histories.{left, IsLegal, calls_by}
use Rattle.cell_registry.specs.Words.{Leaves, value_place}

-- f is one of the fibers
abbrev pub Has : List ℕ → ℕ → Type 0
Has [] f = ⊥
Has (x ∷ xs) f = (x ≡ f) ⊎ Has xs f

-- a fiber's cell after what a pass has seen
abbrev pub seen_cell : Knowledge → ℕ → Cell
seen_cell v f = cell_of (left v.limits v.seen) f

-- the fiber f was started in the history h, and has made no call in it since g, so its own part of its cell is as g
-- left it
pub record IsQuietSince (k : Limits) (h g : List Entry) (f : ℕ) : Type 0 where
  pub calls : calls_by f h ≡ calls_by f g
  pub cell : owned (cell_of (left k h) f) ≡ owned (cell_of (left k g) f)
  pub born : f < (left k h).next_fiber

-- what holds of one pass when the history is h: h begins with what the pass has seen, and the pass has seen all calls
-- by its fibers in h
pub record Fits (k : Limits) (h : List Entry) (v : Knowledge) : Type 0 where
  pub limits : (f : ℕ) → Has v.fibers f → v.limits ≡ k
  pub seen : IsPrefix v.seen h
  pub heard : IsPrefix v.heard h
  pub own : (f : ℕ) → Has v.fibers f → IsQuietSince k h v.seen f
  pub guest : (f : ℕ) → Has v.guests f → IsQuietSince k h v.heard f
  pub apart : (f : ℕ) → Has v.fibers f → Has v.guests f → ⊥

abbrev pub Owns : Knowledge → ℕ → Type 0
Owns v f = Has v.fibers f ⊎ Has v.guests f

-- the value word of the fiber f; and that it is this number as long as the fiber hasn't ended in the history h
abbrev pub value_of : Limits → List ℕ → ℕ → ℕ
value_of k words f = slice_index_or words (value_place k f) 0

abbrev pub HoldsWhileOpen : Limits → List ℕ → List Entry → ℕ → ℕ → Type 0
HoldsWhileOpen k words h f n = IsOpen (cell_of (left k h) f).stage → value_of k words f ≡ n

-- the number that a pass stored last, 0 if it has stored none
abbrev pub last_stored : Option ℕ → ℕ
last_stored None = 0
last_stored (Some n) = n

-- what holds of one pass and the value words of its fibers: as long as its own fiber hasn't ended, the word is the
-- number that the pass stored last, or 0 if it has stored none. The word of each other fiber that it owns (one that it
-- has just started, or whose pass it met) is 0 as long as that fiber hasn't ended
pub record StoredLast (k : Limits) (words : List ℕ) (h : List Entry) (v : Knowledge) : Type 0 where
  pub own : Has v.fibers v.number → HoldsWhileOpen k words h v.number (last_stored v.stored)
  pub others : (f : ℕ) → Owns v f → f ≢ v.number → HoldsWhileOpen k words h f 0

-- no fiber belongs to two passes
abbrev pub Apart : Knowledge → Knowledge → Type 0
Apart v w = (f : ℕ) → Owns v f → Owns w f → ⊥

-- the history h is legal and leaves the words. Only the value word of a fiber that hasn't ended is free of h: it is
-- what the fiber's pass stored last, or 0 if it has stored nothing. The value word of a number that no start has given
-- yet is 0, too
pub record IsHistory (k : Limits) (words : List ℕ) (views : List Knowledge) (h : List Entry) : Type 0 where
  pub limits : AreLimits k
  pub legal : IsLegal k h
  pub words_are : Leaves words (left k h)
  pub fits : (i : ℕ) (v : Knowledge) → get_elem? views i ≡ some v → Fits k h v
  pub stored : (i : ℕ) (v : Knowledge) → get_elem? views i ≡ some v → StoredLast k words h v
  pub unborn : (f : ℕ) → (left k h).next_fiber ≤ f → value_of k words f ≡ 0
  pub apart : (i j : ℕ) (v w : Knowledge) → get_elem? views i ≡ some v → get_elem? views j ≡ some w → j ≢ i → Apart v w

-- some legal history leaves the words
abbrev pub WordsAreAHistory : {S : Type 0} → Limits → State S Knowledge → Type 0
WordsAreAHistory k s = (h : List Entry) × IsHistory k s.words s.views h

-- what fiber 0's pass knows before any call
abbrev pub first_knowledge : Limits → Knowledge
first_knowledge k = record {
  limits = k;
  number = 0;
  fibers = 0 ∷ [];
  seen = [];
  guests = [];
  heard = [];
  stored = None;
}
