-- How much of a text was written.
use Rattle.std.specs.Prelude.{◌<◌, ℕ, Bool, true, false, List, length, take, Option, Result, Ok, Err}
use Rattle.std.specs.Io.KnownBytes.{Appends, Keeps}
use Rattle.text_io.specs.declared.fault.TextFault.{TextFault}
use Rattle.text_io.specs.declared.fault.TextFault.TheVariants.{NoMemory, ReadFault, WriteFault, TurnBound}

-- the part of a text that was written, by the result: all of it, the first bytes, fewer than all, or nothing
abbrev pub GoesOut : {A : Type 0} → Option (List ℕ) → Option (List ℕ) → List ℕ → Result A TextFault → Type 0
GoesOut old new text (Ok v) = Appends old new text
GoesOut old new text (Err NoMemory) = Keeps old new
GoesOut old new text (Err ReadFault) = Keeps old new
GoesOut old new text (Err (WriteFault n)) = (n < length text) × Appends old new (take n text)
GoesOut old new text (Err TurnBound) = Keeps old new

-- whether the fault is the writer's
abbrev pub is_write_fault : {A : Type 0} → Result A TextFault → Bool
is_write_fault (Ok v) = false
is_write_fault (Err NoMemory) = false
is_write_fault (Err ReadFault) = false
is_write_fault (Err (WriteFault n)) = true
is_write_fault (Err TurnBound) = false

-- whether the fault is the reader's
abbrev pub is_read_fault : {A : Type 0} → Result A TextFault → Bool
is_read_fault (Ok v) = false
is_read_fault (Err NoMemory) = false
is_read_fault (Err ReadFault) = true
is_read_fault (Err (WriteFault n)) = false
is_read_fault (Err TurnBound) = false

-- the fault, if there is one, is the writer's
abbrev pub OnlyWriteFaults : {A : Type 0} → Result A TextFault → Type 0
OnlyWriteFaults (Ok v) = Unit {0}
OnlyWriteFaults (Err NoMemory) = ⊥
OnlyWriteFaults (Err ReadFault) = ⊥
OnlyWriteFaults (Err (WriteFault n)) = Unit {0}
OnlyWriteFaults (Err TurnBound) = ⊥

-- the fault, if there is one, is the writer's, or memory ran out
abbrev pub OnlyOutFaults : {A : Type 0} → Result A TextFault → Type 0
OnlyOutFaults (Ok v) = Unit {0}
OnlyOutFaults (Err NoMemory) = Unit {0}
OnlyOutFaults (Err ReadFault) = ⊥
OnlyOutFaults (Err (WriteFault n)) = Unit {0}
OnlyOutFaults (Err TurnBound) = ⊥
