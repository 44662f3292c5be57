-- The effect of a request to decide whether every fair schedule of a text's program ends.
use Rattle.std.specs.Prelude.{Bool, true, false, ℕ, List, is_some}
use Rattle.effect_term.specs.declared.term.Term.{Term}
use Rattle.exploration_text.specs.declared.explore_texts.ExploreOrder.{ExploreOrder}
use Rattle.ending_answers.specs.DecidedAnswers.{IsDecidedAnswer}
use Rattle.outcome_trace.specs.Answers.{IsRefusalAnswer}
use Rattle.json_answers.specs.Answers.{IsJsonRefusal}
use Rattle.text_io.specs.declared.status.Status.{Status}
use Rattle.text_io.specs.Devices.{Devices}
use Rattle.command_words.specs.declared.deciding.Deciding.{Deciding}
use Rattle.command_line.specs.Explorings.{ObeysBeside}

-- the answer to a program, as JSON or in words, with this note; `timed` is whether the time of the search is limited
abbrev pub decides_as : Bool → ExploreOrder → (timed : Bool) → (note : List ℕ) → Term → List ℕ → Status → Type 0
decides_as json order timed note t = IsDecidedAnswer json t order.limits order.bounds timed order.wants.items note

-- the answer to a refused text
abbrev pub decide_refuses : Bool → List ℕ → List ℕ → Status → Type 0
decide_refuses true = IsJsonRefusal
decide_refuses false = IsRefusalAnswer

abbrev pub ObeysDecide : Deciding → Devices → Devices → Status → Type 0
ObeysDecide deciding before after status = ObeysBeside deciding.beside (decide_refuses deciding.json)
    (decides_as deciding.json deciding.order (is_some deciding.seconds)) before after status
