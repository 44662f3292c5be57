-- Numbers that are pushed on a queue and taken from it, through several ends.
use Rattle.std.specs.Prelude.{◌≡◌, ℕ, ◌≤◌, ◌==◌, if◌then◌else◌, List, [], ◌∷◌, ◌++◌, length}
use mathlib.Core.Option.{some}
use lib.ListN.{get_elem?}
use Rattle.ready_queues.specs.declared.traffic.Traffic.{Traffic}

-- an end that has pushed and taken these numbers
abbrev pub traffic : List ℕ → List ℕ → Traffic
traffic pushed taken = record { pushed = pushed; taken = taken }

-- the numbers of these entries, each of which also has the end that it went through
abbrev pub numbers : List (ℕ × ℕ) → List ℕ
numbers [] = []
numbers (e ∷ es) = e.1 ∷ numbers es

-- the numbers that went through one end
abbrev pub through : ℕ → List (ℕ × ℕ) → List ℕ
through p [] = []
through p (e ∷ es) = if e.0 == p then e.1 ∷ through p es else through p es

-- the end knows what was pushed and taken through it
abbrev pub KnowsOwn : List (ℕ × ℕ) → List (ℕ × ℕ) → ℕ → Traffic → Type 0
KnowsOwn into out p v = (v.pushed ≡ through p into) × (v.taken ≡ through p out)

-- a ledger of all that was pushed and taken: the numbers pushed are, in order, those taken and then those left. Each
-- end knows its own part, and each entry went through one of the ends
abbrev pub KeepsLedger : List ℕ → List Traffic → Type 0
KeepsLedger items ends =
    (into : List (ℕ × ℕ)) × (out : List (ℕ × ℕ))
    × (numbers into ≡ numbers out ++ items)
    × ((p : ℕ) (v : Traffic) → get_elem? ends p ≡ some v → KnowsOwn into out p v)
    × ((p : ℕ) → length ends ≤ p → (through p into ≡ []) × (through p out ≡ []))
