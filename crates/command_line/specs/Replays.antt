-- The effect of a request to replay a program.
use Rattle.std.specs.Prelude.{◌≡◌, ◌≢◌, ◌⊎◌, ℕ, Bool, true, false, List, Some, codes, Err}
use Rattle.std.specs.Str.{IsUtf8}
use Rattle.cell_registry.specs.declared.limits.Limits.{Limits}
use Rattle.text_io.specs.declared.fault.TextFault.{TextFault}
use Rattle.text_io.specs.declared.status.Status.{Status}
use Rattle.text_io.specs.declared.status.Status.TheVariants.{Fault}
use Rattle.text_io.specs.Devices.{Devices, Reader, Writer, devices, reader}
use Rattle.text_io.specs.FaultLines.{fault_line}
use Rattle.text_io.specs.Telling.{RefusesSchedule, Told}
use Rattle.text_io.specs.Text.{is_read_fault}
use Rattle.outcome_trace.specs.ReplayAnswers.{IsReplayAnswer}
use Rattle.text_io.specs.declared.schedule.ScheduleError.{ScheduleError}
use Rattle.text_io.specs.declared.schedule.ScheduleError.TheVariants.{BadSchedule}
use Rattle.text_io.specs.Schedule.{IsFirstBad, SpellsEntries}
use Rattle.reasons.specs.Reasons.{IsReplayReasons}
use Rattle.reasons.specs.Schedules.{ExplainsSchedule}
use Rattle.json_answers.specs.Answers.{IsJsonReplay}
use Rattle.timelines.specs.PictureAnswers.{IsPictureAnswer}
use Rattle.timelines.specs.TimelineAnswers.{IsTimelineAnswer}
use Rattle.command_words.specs.declared.replay.AnswerForm.{AnswerForm}
use Rattle.command_words.specs.declared.replay.AnswerForm.TheVariants.{Report, Timeline, Picture, Json}
use Rattle.command_words.specs.declared.replay.Replay.{Replay}
use Rattle.command_line.specs.FirstLine.{IsFirstLine, IsInput}
use Rattle.command_line.specs.Orders.{ObeysOrder}
use Rattle.command_words.specs.Telling.{LacksMemory, TellsWrong}

-- the answer to a text under these entries, in this form
abbrev pub answers_as : AnswerForm → List ℕ → Limits → List ℕ → List ℕ → Status → Type 0
answers_as Report entries limits = IsReplayAnswer entries limits
answers_as Timeline entries limits = IsTimelineAnswer entries limits
answers_as Picture entries limits = IsPictureAnswer entries limits
answers_as Json entries limits = IsJsonReplay entries limits

-- The schedule is well formed, and the text is answered under its entries, in this form, with or without reasons.
pub record ScheduledAs (form : AnswerForm) (explain : Bool) (schedule : List ℕ) (limits : Limits)
    (before after : Devices) (status : Status) : Type 0 where
  pub entries : List ℕ
  pub spelled : SpellsEntries schedule entries
  pub answered :
      ObeysOrder (answers_as form entries limits) (IsReplayReasons entries limits) explain before after status

-- that a schedule is bad, or that memory ran out for it, is written, with or without reasons
abbrev pub RefusesAs : Bool → ScheduleError → Writer → Writer → Status → Type 0
RefusesAs true error before after status = ExplainsSchedule error before after status
RefusesAs false error before after status = RefusesSchedule error before after status

-- The schedule isn't well formed, or memory ran out for it. That is written, and nothing is read or answered.
pub record UnscheduledAs (explain : Bool) (schedule : List ℕ) (before after : Devices) (status : Status) : Type 0 where
  pub error : ScheduleError
  pub place : (p : ℕ) → error ≡ BadSchedule p → IsFirstBad schedule p
  pub unread : after.input ≡ before.input
  pub unanswered : after.out ≡ before.out
  pub told : RefusesAs explain error before.err after.err status

-- the text is answered under the schedule, or the schedule is bad and nothing is read
abbrev pub ObeysSchedule : AnswerForm → Bool → List ℕ → Limits → Devices → Devices → Status → Type 0
ObeysSchedule form explain schedule limits before after status =
    ScheduledAs form explain schedule limits before after status ⊎ UnscheduledAs explain schedule before after status

-- a text in memory that hasn't been read
abbrev pub held : List ℕ → Reader
held text = reader (Some text) false false 0

-- The first line of the input is the text of the schedule, and the rest is the program's text.
pub record ObeysFirstLine (form : AnswerForm) (explain : Bool) (limits : Limits) (before after : Devices)
    (status : Status) : Type 0 where
  pub bytes : List ℕ
  pub line : List ℕ
  pub text : List ℕ
  pub read : IsInput before.input after.input bytes
  pub parts : IsFirstLine bytes line text
  pub left : Reader
  pub obeyed : ObeysSchedule form explain line limits (devices (held text) before.out before.err)
      (devices left after.out after.err) status

-- The first line of the input isn't text. That is written in the same form as what is wrong with words.
pub record HasNoSchedule (before after : Devices) (status : Status) : Type 0 where
  pub bytes : List ℕ
  pub line : List ℕ
  pub text : List ℕ
  pub read : IsInput before.input after.input bytes
  pub parts : IsFirstLine bytes line text
  pub no_text : IsUtf8 line → ⊥
  pub unanswered : after.out ≡ before.out
  pub told : TellsWrong before.err after.err status ⊎ LacksMemory before.err after.err status

-- The input wasn't read: the reader failed, its end wasn't found, or memory ran out. The line of the fault goes to
-- `err`.
pub record HasNoInput (before after : Devices) (status : Status) : Type 0 where
  pub fault : TextFault
  pub failed : after.input.failed ≡ is_read_fault {A = Status} (Err fault)
  pub unanswered : after.out ≡ before.out
  pub told : Told (fault_line fault) before.err after.err
  pub status_is : status ≡ Fault

-- the effect of an input with a schedule in its first line
pub data ObeysInput (form : AnswerForm) (explain : Bool) (limits : Limits) (before after : Devices) (status : Status) :
    Type 0 where
  scheduled : ObeysFirstLine form explain limits before after status →
      ObeysInput form explain limits before after status
  unscheduled : HasNoSchedule before after status → ObeysInput form explain limits before after status
  unread : HasNoInput before after status → ObeysInput form explain limits before after status

-- the effect of a replay: under the schedule among the words, or under that of the input if the word is `-`
abbrev pub ObeysReplay : Replay → Devices → Devices → Status → Type 0
ObeysReplay replay before after status =
    ((replay.schedule.now ≢ codes "-") ×
    ObeysSchedule replay.form replay.explain replay.schedule.now replay.limits before after status) ⊎
    ((replay.schedule.now ≡ codes "-") ×
    ObeysInput replay.form replay.explain replay.limits before after status)
