-- What is written to the last device: the fault of a text.
use Rattle.std.specs.Prelude.{◌≡◌, List, ℕ, Result, Ok, Err}
use Rattle.text_io.specs.declared.fault.TextFault.{TextFault}
use Rattle.text_io.specs.declared.fault.TextFault.TheVariants.{NoMemory}
use Rattle.text_io.specs.declared.schedule.ScheduleError.{ScheduleError}
use Rattle.text_io.specs.declared.schedule.ScheduleError.TheVariants as schedules
use Rattle.text_io.specs.declared.status.Status.{Status}
use Rattle.text_io.specs.declared.status.Status.TheVariants.{Usage, Fault}
use Rattle.text_io.specs.Devices.{Devices, Writer}
use Rattle.text_io.specs.Exchange.{IsAnswered}
use Rattle.text_io.specs.FaultLines.{fault_line, schedule_line}
use Rattle.text_io.specs.Text.{GoesOut, OnlyWriteFaults, is_write_fault}

-- the line was written, or as much of its beginning as the device took before it failed
pub record Told (line : List ℕ) (before after : Writer) : Type 0 where
  pub result : Result (Unit {0}) TextFault
  pub out : GoesOut before.contents after.contents line result
  pub only : OnlyWriteFaults result
  pub failed : after.failed ≡ is_write_fault result

-- a fault is written, and nothing otherwise
abbrev pub TellsResult : Result Status TextFault → Writer → Writer → Type 0
TellsResult (Ok s) before after = after ≡ before
TellsResult (Err fault) before after = Told (fault_line fault) before after

-- the status of the program: that of the answer, or that of a fault
abbrev pub status_of : Result Status TextFault → Status
status_of (Ok s) = s
status_of (Err fault) = Fault

-- a bad schedule is reported with its place, as wrong usage; running out of memory, as a fault
abbrev pub RefusesSchedule : ScheduleError → Writer → Writer → Status → Type 0
RefusesSchedule schedules.NoMemory before after status = Told (fault_line NoMemory) before after × (status ≡ Fault)
RefusesSchedule (schedules.BadSchedule place) before after status =
    Told (schedule_line place) before after × (status ≡ Usage)

-- The text is answered, or there is a fault, which is written to the last device.
pub record Answered (Answers : List ℕ → List ℕ → Status → Type 0) (before after : Devices) (status : Status) : Type 0
  where
    pub result : Result Status TextFault
    pub answered : IsAnswered Answers before.input after.input before.out after.out result
    pub told : TellsResult result before.err after.err
    pub status_is : status ≡ status_of result
