-- What the answers of a search say.
use Rattle.std.specs.Prelude.{◌≡◌, ◌≢◌, ◌⊎◌, ℕ, ◌+◌, ◌*◌, ◌<◌, ◌≤◌, List, length, min, Some, Result, Ok, Err}
use Rattle.std.specs.List.{slice_get, All}
use Rattle.world_search.specs.declared.landings.Landing.{Landing}
use Rattle.world_search.specs.declared.landings.Landing.TheVariants as to
use Rattle.world_search.specs.declared.answers.Answer.{Answer}
use Rattle.world_search.specs.declared.answers.Bounds.{Bounds}
use Rattle.world_search.specs.Lists.{IsIn}
use Rattle.world_search.specs.Systems.{run, IsSettled}

-- the schedule has at most `entries` entries
abbrev pub IsShort : ℕ → Answer → Type 0
IsShort entries a = length a.schedule.items ≤ entries

-- there are at least as many worlds as their bound, more worlds than the bound on entries, or at least as many bytes as
-- their bound; the first two bounds count as at most 2^32 - 1
abbrev pub IsAtBound : Bounds → (worlds bytes : ℕ) → Type 0
IsAtBound bounds worlds bytes =
    (min bounds.worlds 4294967295 ≤ worlds) ⊎ (min bounds.entries 4294967295 < worlds) ⊎ (bounds.memory ≤ bytes)

-- the bytes that are counted: 13 for each world, 8 for each entry that leads to another world, and those of the store;
-- at most 2^64 - 1
abbrev pub bytes_of : (worlds edges store : ℕ) → ℕ
bytes_of worlds edges store = min (13 * worlds + 8 * edges + store) 18446744073709551615

-- each entry of the schedule is below `most`
abbrev pub IsNumbered : ℕ → Answer → Type 0
IsNumbered most a = All (λ f. f < most) a.schedule.items

-- the ends are worlds of different reports, or different faults, or a world and a fault
abbrev pub AreApart : {W R : Type 0} → (W → R) → List W → Landing → Landing → Type 0
AreApart report ws (to.World i) (to.World j) =
    (v w : _) → slice_get ws i ≡ Some v → slice_get ws j ≡ Some w → report v ≢ report w
AreApart report ws (to.World i) (to.Fault j) = Unit {0}
AreApart report ws (to.Fault i) (to.World j) = Unit {0}
AreApart report ws (to.Fault i) (to.Fault j) = i ≢ j

-- no report and no fault is listed twice
abbrev pub TellOnce : {W R : Type 0} → (W → R) → List W → List Answer → Type 0
TellOnce report ws answers =
    (i j : ℕ) (a b : Answer) → i < j → slice_get answers i ≡ Some a → slice_get answers j ≡ Some b →
    AreApart report ws a.end b.end

module _ {W E R : Type 0} (step : W → ℕ → Result W E) (report : W → R) (ws : List W) (es : List E) where
  -- the schedule leads from `first` to this end, which is a settled world or a fault
  abbrev pub LeadsTo : W → List ℕ → Landing → Type 0
  LeadsTo first schedule (to.World j) = (w : W) × (slice_get ws j ≡ Some w) ×
      (run step (Ok first) schedule ≡ Ok w) × IsSettled step report w
  LeadsTo first schedule (to.Fault j) = (e : E) × (slice_get es j ≡ Some e) × (run step (Ok first) schedule ≡ Err e)

  abbrev pub IsRight : W → Answer → Type 0
  IsRight first a = LeadsTo first a.schedule.items a.end

  -- the end is a world of the same report, or the same fault
  abbrev pub Tells : Landing → Result W E → Type 0
  Tells (to.World j) (Ok w) = (x : W) × (slice_get ws j ≡ Some x) × (report x ≡ report w)
  Tells (to.World j) (Err e) = ⊥
  Tells (to.Fault j) (Ok w) = ⊥
  Tells (to.Fault j) (Err e) = slice_get es j ≡ Some e

  -- one of the answers has the same report, or is the same fault
  abbrev pub IsAnswered : List Answer → Result W E → Type 0
  IsAnswered answers y = (a : Answer) × IsIn a answers × Tells a.end y

  -- one of the answers has the same report or fault, unless this is a world that isn't settled
  abbrev pub IsCovered : List Answer → Result W E → Type 0
  IsCovered answers (Ok w) = IsSettled step report w → IsAnswered answers (Ok w)
  IsCovered answers (Err e) = IsAnswered answers (Err e)

  -- this is a fault or a settled world, and one of the answers has the same report or fault
  abbrev pub IsEnd : List Answer → Result W E → Type 0
  IsEnd answers (Ok w) = IsSettled step report w × IsAnswered answers (Ok w)
  IsEnd answers (Err e) = IsAnswered answers (Err e)
