-- A schedule's text and its entries.
use Rattle.std.specs.Prelude.{◌≡◌, ◌≢◌, ◌+◌, ◌<◌, ◌≤◌, ◌⊎◌, ℕ, List, [], ◌∷◌, ◌++◌, length, replicate, Result, Ok, Err}
use Rattle.std.specs.List.{AllByRecursion}
use Rattle.std.specs.Fmt.{decimal}
use Rattle.std.specs.declared.vec.Vec.{Vec}
use Rattle.text_io.specs.declared.schedule.ScheduleError.{ScheduleError}
use Rattle.text_io.specs.declared.schedule.ScheduleError.TheVariants.{NoMemory, BadSchedule}

-- a fiber once, or a number of times
pub data Item : Type 0 where
  once : ℕ → Item
  repeated : ℕ → ℕ → Item

abbrev pub IsItem : Item → Type 0
IsItem (once f) = f < 1000
IsItem (repeated f k) = (f < 1000) × (0 < k) × (k ≤ 100000)

abbrev pub fiber_of : Item → ℕ
fiber_of (once f) = f
fiber_of (repeated f k) = f

abbrev pub times_of : Item → ℕ
times_of (once f) = 1
times_of (repeated f k) = k

-- `f`, or `f*k`
abbrev pub spelling : Item → List ℕ
spelling (once f) = decimal f
spelling (repeated f k) = decimal f ++ 42 ∷ decimal k

-- the items, with one space between two
abbrev pub text_of : List Item → List ℕ
text_of [] = []
text_of (i ∷ []) = spelling i
text_of (i ∷ j ∷ items) = spelling i ++ 32 ∷ text_of (j ∷ items)

abbrev pub entries_of : List Item → List ℕ
entries_of [] = []
entries_of (i ∷ items) = replicate (times_of i) (fiber_of i) ++ entries_of items

-- the text is an item of this fiber, with this number of times
pub record IsItemOf (text : List ℕ) (fiber times : ℕ) : Type 0 where
  pub item : Item
  pub good : IsItem item
  pub text_is : text ≡ spelling item
  pub fiber_is : fiber ≡ fiber_of item
  pub times_is : times ≡ times_of item

-- the text is a schedule, and these are its entries
pub record SpellsEntries (text entries : List ℕ) : Type 0 where
  pub items : List Item
  pub good : AllByRecursion IsItem items
  pub text_is : text ≡ text_of items
  pub entries_are : entries ≡ entries_of items
  pub few : length entries ≤ 1000000

-- items before other items, each with its space
abbrev pub front_of : List Item → List ℕ
front_of [] = []
front_of (i ∷ items) = spelling i ++ 32 ∷ front_of items

-- the text begins with this item, and ends there or has a space behind it
abbrev pub BeginsWith : List ℕ → Item → Type 0
BeginsWith text i = (text ≡ spelling i) ⊎ ((behind : List ℕ) × (text ≡ spelling i ++ 32 ∷ behind))

-- Good items come before this place, and no item that is good and within the bound is at it.
pub record IsFirstBad (text : List ℕ) (place : ℕ) : Type 0 where
  pub items : List Item
  pub rest : List ℕ
  pub good : AllByRecursion IsItem items
  pub text_is : text ≡ front_of items ++ rest
  pub place_is : place ≡ length (front_of items)
  pub few : length (entries_of items) ≤ 1000000
  pub some : 0 < length text
  pub bad : (i : Item) → IsItem i → BeginsWith rest i → length (entries_of items) + times_of i ≤ 1000000 → ⊥

-- the text doesn't contain the byte
abbrev pub HasNo : ℕ → List ℕ → Type 0
HasNo c text = AllByRecursion (λ b. b ≢ c) text

-- what a reader returns for a good text: these entries, unless memory runs out
abbrev pub GivesEntries : {A : Type 0} → List ℕ → Result (Vec ℕ A) ScheduleError → Type 0
GivesEntries entries (Ok v) = v.items ≡ entries
GivesEntries entries (Err NoMemory) = Unit {0}
GivesEntries entries (Err (BadSchedule place)) = ⊥

-- what a reader returns if the first bad item has this place: that place, unless memory runs out
abbrev pub RefusesAt : {A : Type 0} → ℕ → Result A ScheduleError → Type 0
RefusesAt place (Ok v) = ⊥
RefusesAt place (Err NoMemory) = Unit {0}
RefusesAt place (Err (BadSchedule p)) = p ≡ place
