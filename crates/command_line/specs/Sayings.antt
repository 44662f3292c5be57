-- The effect of a request to explore a text's program for the outcomes and says of its fibers.
use Rattle.std.specs.Prelude.{Bool, true, false, ℕ, List, is_some}
use Rattle.effect_term.specs.declared.term.Term.{Term}
use Rattle.exploration_text.specs.declared.explore_texts.ExploreOrder.{ExploreOrder}
use Rattle.exploration_text.specs.Draws.{IsWithDraws}
use Rattle.outcome_answers.specs.OutcomeAnswers.{IsSaysAnswer}
use Rattle.outcome_trace.specs.Answers.{IsRefusalAnswer}
use Rattle.json_answers.specs.Answers.{IsJsonRefusal}
use Rattle.text_io.specs.declared.status.Status.{Status}
use Rattle.text_io.specs.Devices.{Devices}
use Rattle.command_words.specs.declared.saying.Saying.{Saying}
use Rattle.command_line.specs.Explorings.{ObeysBeside, behind_as}

-- the answer to a program, as JSON or in words, with this note; `timed` is whether the time of the search is limited
abbrev pub says_as : Bool → ExploreOrder → (timed : Bool) → (note : List ℕ) → Term → List ℕ → Status → Type 0
says_as json order timed note t = IsWithDraws (behind_as json) order t
    (IsSaysAnswer json t order.limits order.bounds timed order.wants.items note)

-- the answer to a refused text
abbrev pub say_refuses : Bool → List ℕ → List ℕ → Status → Type 0
say_refuses true = IsJsonRefusal
say_refuses false = IsRefusalAnswer

abbrev pub ObeysSay : Saying → Devices → Devices → Status → Type 0
ObeysSay saying before after status = ObeysBeside saying.beside (say_refuses saying.json)
    (says_as saying.json saying.order (is_some saying.seconds)) before after status
