-- The reasons of a bad schedule's text.
use Rattle.std.specs.Prelude.{◌≡◌, ◌⊎◌, ℕ, List, ◌++◌}
use Rattle.text_io.specs.declared.schedule.ScheduleError.{ScheduleError}
use Rattle.text_io.specs.declared.schedule.ScheduleError.TheVariants.{BadSchedule}
use Rattle.text_io.specs.declared.status.Status.{Status}
use Rattle.text_io.specs.declared.status.Status.TheVariants.{Usage}
use Rattle.text_io.specs.Devices.{Writer}
use Rattle.text_io.specs.FaultLines.{schedule_line}
use Rattle.text_io.specs.Telling.{RefusesSchedule, Told}

-- the line of a bad schedule and the reasons are written
pub record TellsWhy (error : ScheduleError) (before after : Writer) (status : Status) : Type 0 where
  pub place : ℕ
  pub rest : List ℕ
  pub bad : error ≡ BadSchedule place
  pub told : Told (schedule_line place ++ rest) before after
  pub status_is : status ≡ Usage

-- the refusal of a schedule, without reasons or with them
abbrev pub ExplainsSchedule : ScheduleError → Writer → Writer → Status → Type 0
ExplainsSchedule error before after status =
    RefusesSchedule error before after status ⊎ TellsWhy error before after status
