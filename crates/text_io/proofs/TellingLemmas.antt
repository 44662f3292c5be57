-- What is told of a bad schedule.
use Rattle.std.proofs.Common.{◌≡◌, ℕ, List, Result, refl, subst}
use Rattle.text_io.specs.declared.{fault.TextFault.TextFault, schedule.ScheduleError.{ScheduleError, TheVariants.BadSchedule}, status.Status.TheVariants.Usage}
use Rattle.text_io.specs.{Devices.Writer, FaultLines.schedule_line, Telling.RefusesSchedule, Text.{GoesOut, OnlyWriteFaults, is_write_fault}}

-- a bad schedule is told by its line
pub schedule_refused : (error : ScheduleError) (place : ℕ) (line : List ℕ) (before after : Writer) (result : Result (Unit {0}) TextFault) →
    error ≡ BadSchedule place → line ≡ schedule_line place → GoesOut before.contents after.contents line result → OnlyWriteFaults result →
    after.failed ≡ is_write_fault result → RefusesSchedule error before after Usage
schedule_refused error place line before after result bad is out only failed =
    rw bad (
      record {
        result = result;
        out = subst (λ (l : List ℕ). GoesOut before.contents after.contents l result) is out;
        only = only;
        failed =
            failed;
      },
      refl,
    )
