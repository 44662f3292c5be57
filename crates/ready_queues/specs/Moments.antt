-- What holds of the moment of a push or a take.
use Rattle.std.specs.Prelude.{◌≡◌, ℕ, List, [], ◌++◌, slice_set}
use mathlib.Core.Option.{some}
use lib.ListN.{get_elem?}
use Rattle.ready_queues.specs.declared.traffic.Traffic.{Traffic}
use Rattle.ready_queues.specs.Ledger.{traffic, KeepsLedger}

-- at one moment these numbers were added to the end of the queue's list, through an end that knows it
abbrev pub PutLast : Traffic → List ℕ → Traffic → Type 0
PutLast v xs w =
    (w ≡ traffic (v.pushed ++ xs) v.taken)
    × ((items : List ℕ) × (ends : List Traffic) × (p : ℕ)
    × KeepsLedger items ends × (get_elem? ends p ≡ some v) × KeepsLedger (items ++ xs) (slice_set ends p w))

-- at one moment these numbers were the first of the queue's list and were removed from it, through an end that knows it
abbrev pub TookFirst : Traffic → List ℕ → Traffic → Type 0
TookFirst v xs w =
    (w ≡ traffic v.pushed (v.taken ++ xs))
    × ((items : List ℕ) × (ends : List Traffic) × (p : ℕ)
    × KeepsLedger (xs ++ items) ends × (get_elem? ends p ≡ some v) × KeepsLedger items (slice_set ends p w))

-- at one moment the queue's list was empty
abbrev pub WasEmpty : Traffic → Type 0
WasEmpty v = (ends : List Traffic) × (p : ℕ) × KeepsLedger [] ends × (get_elem? ends p ≡ some v)
