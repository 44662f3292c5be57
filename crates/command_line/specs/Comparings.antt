-- The effect of a request to compare the programs of two files.
use Rattle.std.specs.Prelude.{◌≡◌, ◌≢◌, ◌⊎◌, ℕ, false, List, [], ◌++◌, codes, Result, Ok, Err, IfOk}
use Rattle.compared_ends.specs.declared.order.CompareOrder.{CompareOrder}
use Rattle.comparison_answers.specs.PairAnswers.{IsPairAnswer}
use Rattle.text_io.specs.declared.fault.TextFault.{TextFault}
use Rattle.text_io.specs.declared.fault.TextFault.TheVariants.{NoMemory, ReadFault, WriteFault, TurnBound}
use Rattle.text_io.specs.declared.status.Status.{Status}
use Rattle.text_io.specs.declared.status.Status.TheVariants.{Fault}
use Rattle.text_io.specs.Devices.{Reader, Writer}
use Rattle.text_io.specs.Exchange.{IsOutOfReads, IsRead}
use Rattle.text_io.specs.FaultLines.{fault_line}
use Rattle.text_io.specs.Telling.{Told, status_of}
use Rattle.text_io.specs.Text.{GoesOut, OnlyWriteFaults, is_read_fault, is_write_fault}
use Rattle.file_kinds.specs.Beginnings.{IsModelFile}
use Rattle.command_words.specs.Telling.{LacksMemory}
use Rattle.command_line.specs.ModelNotes.{model_note}
use Rattle.command_line.specs.declared.compare_order.Side.{Side}
use Rattle.command_line.specs.declared.compare_order.Side.TheVariants.{First, Second}

-- the name of one of the two files
abbrev pub side_name : Side → List ℕ
side_name First = codes "first: "
side_name Second = codes "second: "

-- the line of a fault in reading this file
abbrev pub side_line : Side → TextFault → List ℕ
side_line side NoMemory = fault_line NoMemory
side_line side ReadFault = side_name side ++ fault_line ReadFault
side_line side (WriteFault n) = fault_line (WriteFault n)
side_line side TurnBound = side_name side ++ fault_line TurnBound

-- the note on two texts of which one begins as a model file
abbrev pub IsPairNote : (one other note : List ℕ) → Type 0
IsPairNote one other note = (IsModelFile one × (note ≡ side_name First ++ model_note)) ⊎
    ((IsModelFile one → ⊥) × ((IsModelFile other × (note ≡ side_name Second ++ model_note)) ⊎
    ((IsModelFile other → ⊥) × (note ≡ []))))

-- the note is written
abbrev pub NotesPair : (one other : List ℕ) → Writer → Writer → Type 0
NotesPair one other err err' = (note : List ℕ) × IsPairNote one other note × Told note err err'

-- the note is written behind an answer; the line of a fault, if there is one
abbrev pub TellsPair : (one other : List ℕ) → Result Status TextFault → Writer → Writer → Type 0
TellsPair one other (Ok s) err err' = NotesPair one other err err'
TellsPair one other (Err fault) err err' = Told (fault_line fault) err err'

-- The answer to two texts is written, as `result` records, and then the note. The line of a fault goes to `err`.
pub record AnswersPair (order : CompareOrder) (one other : List ℕ) (out out' err err' : Writer) (status : Status) :
    Type 0 where
  pub answer : List ℕ
  pub own : Status
  pub result : Result Status TextFault
  pub answers : IsPairAnswer order.json order.limits order.bounds order.basis one other answer own
  pub gives : IfOk result (λ s. s ≡ own)
  pub goes : GoesOut out.contents out'.contents answer result
  pub only : OnlyWriteFaults result
  pub failed : out'.failed ≡ is_write_fault result
  pub told : TellsPair one other result err err'
  pub status_is : status ≡ status_of result

-- the effect of comparing two texts: their answer is written, or that memory ran out for it
pub data WritesPair (order : CompareOrder) (one other : List ℕ) (out out' err err' : Writer) (status : Status) : Type 0
  where
    answered : AnswersPair order one other out out' err err' status →
        WritesPair order one other out out' err err' status
    no_memory : out' ≡ out → LacksMemory err err' status → WritesPair order one other out out' err err' status

-- a file that was opened, and not yet read
pub record IsUnread (r : Reader) : Type 0 where
  pub healthy : r.failed ≡ false
  pub unended : r.ended ≡ false
  pub none : r.reads ≡ 0

-- The file was opened, and this is its text.
pub record IsFileText (text : List ℕ) : Type 0 where
  pub before : Reader
  pub after : Reader
  pub unread : IsUnread before
  pub read : IsRead before after text

-- The file was opened, but this fault came before its text was read.
pub record FailsFile (fault : TextFault) : Type 0 where
  pub before : Reader
  pub after : Reader
  pub unread : IsUnread before
  pub failed : after.failed ≡ is_read_fault {A = Status} (Err fault)
  pub turns : fault ≡ TurnBound → IsOutOfReads before after
  pub nothing_written : (n : ℕ) → fault ≢ WriteFault n

-- why a file has no text: it can't be opened, or the fault that came before its text was read
abbrev pub IsFileFault : TextFault → Type 0
IsFileFault fault = FailsFile fault ⊎ (fault ≡ ReadFault)

-- A file has no text. The line of the fault goes to `err`, and nothing is answered.
pub record FailsSide (side : Side) (out out' err err' : Writer) (status : Status) : Type 0 where
  pub fault : TextFault
  pub fails : IsFileFault fault
  pub unanswered : out' ≡ out
  pub told : Told (side_line side fault) err err'
  pub status_is : status ≡ Fault

-- the effect of comparing one text with that of the second file
pub data ComparesSecond (order : CompareOrder) (one : List ℕ) (out out' err err' : Writer) (status : Status) : Type 0
  where
    second_read : (other : List ℕ) → IsFileText other → WritesPair order one other out out' err err' status →
        ComparesSecond order one out out' err err' status
    second_fails : FailsSide Second out out' err err' status → ComparesSecond order one out out' err err' status

-- The effect of comparing two files. The second one is opened once the first is read.
pub data ObeysCompare (order : CompareOrder) (out out' err err' : Writer) (status : Status) : Type 0 where
  first_read : (one : List ℕ) → IsFileText one → ComparesSecond order one out out' err err' status →
      ObeysCompare order out out' err err' status
  first_fails : FailsSide First out out' err err' status → ObeysCompare order out out' err err' status
