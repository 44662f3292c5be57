-- The effect of a request to search for the first finding of a text's program.
use Rattle.std.specs.Prelude.{Bool, true, false, ℕ, List, is_some}
use Rattle.effect_term.specs.declared.term.Term.{Term}
use Rattle.exploration_text.specs.declared.explore_texts.ExploreOrder.{ExploreOrder}
use Rattle.exploration_text.specs.Findings.{IsFirstAnswer}
use Rattle.outcome_trace.specs.Answers.{IsRefusalAnswer}
use Rattle.json_answers.specs.Answers.{IsJsonRefusal}
use Rattle.json_answers.specs.FindingData.{IsJsonFirstAnswer}
use Rattle.text_io.specs.declared.status.Status.{Status}
use Rattle.text_io.specs.Devices.{Devices}
use Rattle.command_words.specs.declared.seeking.Seeking.{Seeking}
use Rattle.command_line.specs.Explorings.{ObeysBeside}

-- the answer to a program, as JSON or in words, with this note; `timed` is whether the time of the search is limited
abbrev pub seeks_as : Bool → ExploreOrder → (timed : Bool) → (note : List ℕ) → Term → List ℕ → Status → Type 0
seeks_as true order timed note t = IsJsonFirstAnswer t order.limits order.bounds timed order.wants.items note
seeks_as false order timed note t = IsFirstAnswer t order.limits order.bounds timed order.wants.items note

-- the answer to a refused text
abbrev pub seek_refuses : Bool → List ℕ → List ℕ → Status → Type 0
seek_refuses true = IsJsonRefusal
seek_refuses false = IsRefusalAnswer

abbrev pub ObeysSeek : Seeking → Devices → Devices → Status → Type 0
ObeysSeek seeking before after status = ObeysBeside seeking.beside (seek_refuses seeking.json)
    (seeks_as seeking.json seeking.order (is_some seeking.seconds)) before after status
