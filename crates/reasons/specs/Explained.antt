-- The answer to a text, with its reasons.
use Rattle.std.specs.Prelude.{◌≡◌, ◌⊎◌, ℕ, List, Result, Ok, Err}
use Rattle.text_io.specs.declared.fault.TextFault.{TextFault}
use Rattle.text_io.specs.declared.status.Status.{Status}
use Rattle.text_io.specs.Devices.{Devices, Reader, Writer}
use Rattle.text_io.specs.Exchange.{IsAnswered, IsRead}
use Rattle.text_io.specs.FaultLines.{fault_line}
use Rattle.text_io.specs.Telling.{Told, status_of}

-- Possible reasons were written, all of them or the beginning that the device took before it failed; or nothing was
-- written.
abbrev pub TellsReasons : (List ℕ → Type 0) → Writer → Writer → Type 0
TellsReasons Tells before after = ((told : List ℕ) × Tells told × Told told before after) ⊎ (after ≡ before)

-- reasons of the text that was read, if it is answered; otherwise only the fault
abbrev pub TellsResult : (List ℕ → List ℕ → Type 0) → Result Status TextFault → Reader → Reader → Writer → Writer →
    Type 0
TellsResult Tells (Ok s) input left before after =
    (text : List ℕ) × IsRead input left text × TellsReasons (Tells text) before after
TellsResult Tells (Err fault) input left before after = Told (fault_line fault) before after

-- The text is answered as without reasons, and its reasons are written; or there is a fault, and only the fault is
-- written.
pub record Explained (Answers : List ℕ → List ℕ → Status → Type 0) (Tells : List ℕ → List ℕ → Type 0)
    (before after : Devices) (status : Status) : Type 0 where
  pub result : Result Status TextFault
  pub answered : IsAnswered Answers before.input after.input before.out after.out result
  pub told : TellsResult Tells result before.input after.input before.err after.err
  pub status_is : status ≡ status_of result

-- ---- for private clauses

-- this text was read and answered with this status, and all of the answer was written
pub record IsKept (Answers : List ℕ → List ℕ → Status → Type 0) (before after : Reader) (old new : Writer)
    (text : List ℕ) (status : Status) : Type 0 where
  pub answered : IsAnswered Answers before after old new (Ok status)
  pub read : IsRead before after text
