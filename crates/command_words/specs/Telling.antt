-- The texts that are written if words make no request.
use Rattle.std.specs.Prelude.{◌≡◌, ◌≢◌, ◌⊎◌, ℕ, List, Result, IfOk}
use Rattle.clap.specs.declared.error.kind.ErrorKind.{ErrorKind}
use Rattle.clap.specs.declared.error.kind.ErrorKind.TheVariants as kind
use Rattle.text_io.specs.declared.fault.TextFault.{TextFault}
use Rattle.text_io.specs.declared.fault.TextFault.TheVariants.{NoMemory}
use Rattle.text_io.specs.declared.status.Status.{Status}
use Rattle.text_io.specs.declared.status.Status.TheVariants.{Succeeded, Usage, Fault}
use Rattle.text_io.specs.Devices.{Writer}
use Rattle.text_io.specs.FaultLines.{fault_line}
use Rattle.text_io.specs.Telling.{TellsResult, Told, status_of}
use Rattle.text_io.specs.Text.{GoesOut, OnlyWriteFaults, is_write_fault}

-- the words ask for help or for the version
abbrev pub AsksHelp : ErrorKind → Type 0
AsksHelp k = (k ≡ kind.DisplayHelp) ⊎ (k ≡ kind.DisplayVersion)

-- the requested text is written to `out`, and a fault of that device to `err`
pub record ShowsText (out out' err err' : Writer) (status : Status) : Type 0 where
  pub text : List ℕ
  pub result : Result Status TextFault
  pub succeeded : IfOk result (λ s. s ≡ Succeeded)
  pub goes : GoesOut out.contents out'.contents text result
  pub only : OnlyWriteFaults result
  pub failed : out'.failed ≡ is_write_fault result
  pub told : TellsResult result err err'
  pub status_is : status ≡ status_of result

-- memory ran out, and the line of this fault is written to `err`
pub record LacksMemory (err err' : Writer) (status : Status) : Type 0 where
  pub told : Told (fault_line NoMemory) err err'
  pub status_is : status ≡ Fault

-- what is wrong with the words is written to `err`
pub record TellsWrong (err err' : Writer) (status : Status) : Type 0 where
  pub text : List ℕ
  pub told : Told text err err'
  pub status_is : status ≡ Usage

-- the effect of an error of kind `k`: the requested text is written, or what is wrong, or that memory ran out
pub data TellsKind (k : ErrorKind) (out out' err err' : Writer) (status : Status) : Type 0 where
  shown : AsksHelp k → ShowsText out out' err err' status → TellsKind k out out' err err' status
  wrong : (AsksHelp k → ⊥) → k ≢ kind.OutOfMemory → out' ≡ out → TellsWrong err err' status →
      TellsKind k out out' err err' status
  no_memory : out' ≡ out → LacksMemory err err' status → TellsKind k out out' err err' status
