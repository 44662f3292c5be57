-- What is written of a run beside its answer.
use Rattle.std.specs.Prelude.{◌≡◌, ℕ, List, [], ◌∷◌, ◌++◌, Result, Ok, Err, codes}
use Rattle.std.specs.Io.KnownBytes.{Appends}
use Rattle.cell_registry.specs.declared.limits.Limits.{Limits}
use Rattle.reasons.specs.Explained.{TellsReasons}
use Rattle.reasons.specs.Reasons.{IsReplayReasons}
use Rattle.outcome_trace.specs.ReplayAnswers.{IsReplayAnswer}
use Rattle.steal_pool.specs.declared.options.Options.{Options}
use Rattle.steal_pool.specs.Runs.{limits_of}
use Rattle.text_io.specs.declared.fault.TextFault.{TextFault}
use Rattle.text_io.specs.declared.status.Status.{Status}
use Rattle.text_io.specs.Devices.{Devices, Reader, Writer}
use Rattle.text_io.specs.Exchange.{IsAnswered, IsRead}
use Rattle.text_io.specs.FaultLines.{fault_line}
use Rattle.text_io.specs.Telling.{Told, status_of}
use Rattle.command_line.specs.Workers.{IsRunTextAnswer}

-- the line that is written if no schedule of the run was found
abbrev pub no_reasons_line : List ℕ
no_reasons_line = codes "reasons can't be told: no schedule of this run was found" ++ 10 ∷ []

-- The reasons for a text and the answer that a run gave to it: the reasons of a replay with exactly this answer, under
-- the limits of the run, or the line that there are none.
pub data AreRunReasons (limits : Limits) (text answer : List ℕ) (status : Status) : List ℕ → Type 0 where
  replayed : (entries told : List ℕ) → IsReplayAnswer entries limits text answer status →
      IsReplayReasons entries limits text told → AreRunReasons limits text answer status told
  untold : AreRunReasons limits text answer status no_reasons_line

-- the text was read, its whole answer was written, and some of the reasons for both; with a fault, only its line
abbrev pub TellsRunReasons : Options → Result Status TextFault → Devices → Devices → Type 0
TellsRunReasons options (Ok status) before after = (text : List ℕ) × (answer : List ℕ) ×
    IsRead before.input after.input text × Appends before.out.contents after.out.contents answer ×
    TellsReasons (AreRunReasons (limits_of options) text answer status) before.err after.err
TellsRunReasons options (Err fault) before after = Told (fault_line fault) before.err after.err

-- The text is answered as without reasons, and the reasons go to `err`. If there is a fault, only its line goes to
-- `err`.
pub record ExplainsRun (options : Options) (before after : Devices) (status : Status) : Type 0 where
  pub result : Result Status TextFault
  pub answered : IsAnswered (IsRunTextAnswer options) before.input after.input before.out after.out result
  pub told : TellsRunReasons options result before after
  pub status_is : status ≡ status_of result

-- ---- for private clauses

-- this text was read, a run gave this answer, and the whole answer was written
pub record IsRunKept (options : Options) (before after : Reader) (old new : Writer) (text answer : List ℕ)
    (status : Status) : Type 0 where
  pub answered : IsAnswered (IsRunTextAnswer options) before after old new (Ok status)
  pub read : IsRead before after text
  pub written : Appends old.contents new.contents answer
