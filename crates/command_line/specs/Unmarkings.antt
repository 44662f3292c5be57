-- The effect of a request to explore a text's program for the outcomes of its fibers, without their marks.
use Rattle.std.specs.Prelude.{Bool, true, false, ℕ, List, is_some}
use Rattle.effect_term.specs.declared.term.Term.{Term}
use Rattle.exploration_text.specs.declared.explore_texts.ExploreOrder.{ExploreOrder}
use Rattle.exploration_text.specs.Draws.{IsWithDraws}
use Rattle.outcome_answers.specs.OutcomeAnswers.{IsOutcomesAnswer}
use Rattle.outcome_trace.specs.Answers.{IsRefusalAnswer}
use Rattle.json_answers.specs.Answers.{IsJsonRefusal}
use Rattle.text_io.specs.declared.status.Status.{Status}
use Rattle.text_io.specs.Devices.{Devices}
use Rattle.command_words.specs.declared.unmarking.Unmarking.{Unmarking}
use Rattle.command_line.specs.Explorings.{ObeysBeside, behind_as}

-- the answer to a program, as JSON or in words, of all fibers or of fiber 0 alone, with this note; `timed` is whether
-- the time of the search is limited
abbrev pub unmarks_as : (json only_first : Bool) → ExploreOrder → (timed : Bool) → (note : List ℕ) → Term → List ℕ →
    Status → Type 0
unmarks_as json only_first order timed note t = IsWithDraws (behind_as json) order t
    (IsOutcomesAnswer json only_first t order.limits order.bounds timed order.wants.items note)

-- the answer to a refused text
abbrev pub unmark_refuses : Bool → List ℕ → List ℕ → Status → Type 0
unmark_refuses true = IsJsonRefusal
unmark_refuses false = IsRefusalAnswer

abbrev pub ObeysUnmark : Unmarking → Devices → Devices → Status → Type 0
ObeysUnmark unmarking before after status = ObeysBeside unmarking.beside (unmark_refuses unmarking.json)
    (unmarks_as unmarking.json unmarking.only_first unmarking.order (is_some unmarking.seconds)) before after status
