-- The effect of a request to run a text's program on workers.
use Rattle.std.specs.Prelude.{Bool, true, false, ℕ, List}
use Rattle.effect_term.specs.declared.term.Term.{Term}
use Rattle.json_answers.specs.Answers.{IsJsonRefusal}
use Rattle.outcome_trace.specs.Answers.{IsProgramAnswer, IsRefusalAnswer}
use Rattle.steal_pool.specs.declared.options.Options.{Options}
use Rattle.text_io.specs.declared.status.Status.{Status}
use Rattle.text_io.specs.Devices.{Devices}
use Rattle.text_io.specs.Telling.{Answered}
use Rattle.command_words.specs.declared.running.RunForm.{RunForm}
use Rattle.command_words.specs.declared.running.RunForm.TheVariants.{Report, Record, Timeline, Json}
use Rattle.command_words.specs.declared.running.Running.{Running}
use Rattle.command_line.specs.Recording.{IsRecordedAnswer, IsTimedAnswer}
use Rattle.command_line.specs.RunReasons.{ExplainsRun}
use Rattle.command_line.specs.Workers.{IsJsonWorkersAnswer, IsWorkersAnswer}

-- the answer to a refused text, in this form
abbrev pub refused_as : RunForm → List ℕ → List ℕ → Status → Type 0
refused_as Report = IsRefusalAnswer
refused_as Record = IsRefusalAnswer
refused_as Timeline = IsRefusalAnswer
refused_as Json = IsJsonRefusal

-- the answer to a program on workers, in this form
abbrev pub comes_as : RunForm → Options → Term → List ℕ → Status → Type 0
comes_as Report options t = IsWorkersAnswer t options
comes_as Record options t = IsRecordedAnswer t options
comes_as Timeline options t = IsTimedAnswer t options
comes_as Json options t = IsJsonWorkersAnswer t options

-- the answer to a text, in this form
abbrev pub ran_as : RunForm → Options → List ℕ → List ℕ → Status → Type 0
ran_as form options = IsProgramAnswer (refused_as form) (comes_as form options)

-- the effect of a run in this form, with or without reasons
abbrev pub RunsAs : Bool → RunForm → Options → Devices → Devices → Status → Type 0
RunsAs true form options before after status = ExplainsRun options before after status
RunsAs false form options before after status = Answered (ran_as form options) before after status

abbrev pub ObeysRun : Running → Devices → Devices → Status → Type 0
ObeysRun running before after status = RunsAs running.explain running.form running.options before after status
