-- The effect of a request to test the models of files.
use Rattle.std.specs.Prelude.{◌≡◌, ◌≢◌, ◌⊎◌, ◌+◌, ◌-◌, ◌<◌, ◌^◌, ℕ, Bool, true, false, min, List, length, take, Option, Result, Ok, Err}
use Rattle.std.specs.Io.KnownBytes.{Appends}
use Rattle.command_words.specs.declared.testing.Coloring.{Coloring}
use Rattle.command_words.specs.declared.testing.Coloring.TheVariants.{Auto, Always, Never}
use Rattle.text_io.specs.declared.status.Status.{Status}
use Rattle.text_io.specs.declared.status.Status.TheVariants.{Succeeded, Errored, Canceled, Unended, Usage, Refused, Fault}
use Rattle.text_io.specs.declared.fault.TextFault.{TextFault}
use Rattle.text_io.specs.declared.fault.TextFault.TheVariants.{NoMemory, ReadFault, WriteFault, TurnBound}
use Rattle.text_io.specs.Devices.{Devices}

-- a status of `terms`, and of a `test` whose reports can be written
abbrev pub IsTestedStatus : Status → Type 0
IsTestedStatus Succeeded = Unit {0}
IsTestedStatus Errored = Unit {0}
IsTestedStatus Canceled = ⊥
IsTestedStatus Unended = Unit {0}
IsTestedStatus Usage = ⊥
IsTestedStatus Refused = Unit {0}
IsTestedStatus Fault = Unit {0}

-- a status of `test`
abbrev pub IsTestStatus : Status → Type 0
IsTestStatus status = IsTestedStatus status ⊎ (status ≡ Usage)

-- a text is printed behind `before` bytes: all of it, and `after` counts it, too; or a part of it, and the fault counts
-- that part and the bytes before it
abbrev pub IsCounted : {A : Type 0} → ℕ → ℕ → Option (List ℕ) → Option (List ℕ) → List ℕ → Result A TextFault → Type 0
IsCounted before after old new text (Ok v) = (after ≡ min (before + length text) (2 ^ 64 - 1)) × Appends old new text
IsCounted before after old new text (Err NoMemory) = ⊥
IsCounted before after old new text (Err ReadFault) = ⊥
IsCounted before after old new text (Err (WriteFault n)) =
    (k : ℕ) × (k < length text) × Appends old new (take k text) × (n ≡ min (before + k) (2 ^ 64 - 1))
IsCounted before after old new text (Err TurnBound) = ⊥

-- whether verdicts have colours, by the words and by whether the output takes colours
abbrev pub are_colored : Coloring → Bool → Bool
are_colored Auto takes = takes
are_colored Always takes = true
are_colored Never takes = false

-- The input isn't read. If the status is no fault, no write has failed. If it is a usage fault, nothing is printed.
pub record ObeysTest (before after : Devices) (status : Status) : Type 0 where
  pub unread : after.input ≡ before.input
  pub whole : status ≢ Fault → after.out.failed ≡ false
  pub usage : status ≡ Usage → after.out ≡ before.out
  pub status_is : IsTestStatus status

-- The input isn't read. If the status is no fault, no write has failed.
pub record ObeysTerms (before after : Devices) (status : Status) : Type 0 where
  pub unread : after.input ≡ before.input
  pub whole : status ≢ Fault → after.out.failed ≡ false
  pub status_is : IsTestedStatus status
