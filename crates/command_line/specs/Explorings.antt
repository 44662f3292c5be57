-- The effect of a request to explore a text's program.
use Rattle.std.specs.Prelude.{◌≡◌, Bool, true, false, ℕ, List, Result, is_some}
use Rattle.effect_term.specs.declared.term.Term.{Term}
use Rattle.exploration_text.specs.declared.explore_texts.ExploreOrder.{ExploreOrder}
use Rattle.exploration_text.specs.declared.findings.Finding.{Finding}
use Rattle.exploration_text.specs.Draws.{IsWithDraws, IsWordsBehind}
use Rattle.exploration_text.specs.ExploreAnswers.{IsNotedExplored}
use Rattle.exploration_text.specs.Noting.{IsNotedAnswer}
use Rattle.outcome_trace.specs.Answers.{IsRefusalAnswer}
use Rattle.reasons.specs.Refusals.{IsTextReasons}
use Rattle.json_answers.specs.Answers.{IsJsonRefusal}
use Rattle.json_answers.specs.FindingData.{IsLineBehind}
use Rattle.json_answers.specs.FoundAnswers.{IsNotedJsonExplored}
use Rattle.text_io.specs.declared.fault.TextFault.{TextFault}
use Rattle.text_io.specs.declared.status.Status.{Status}
use Rattle.text_io.specs.Devices.{Devices}
use Rattle.text_io.specs.Exchange.{IsAnswered}
use Rattle.text_io.specs.Telling.{status_of}
use Rattle.timelines.specs.ExploreTimelines.{IsNotedTold}
use Rattle.command_words.specs.declared.exploring.Beside.{Beside}
use Rattle.command_words.specs.declared.exploring.Beside.TheVariants.{Nothing, Progress, Reasons}
use Rattle.command_words.specs.declared.exploring.ExploreForm.{ExploreForm}
use Rattle.command_words.specs.declared.exploring.ExploreForm.TheVariants.{Report, Timeline, Json}
use Rattle.command_words.specs.declared.exploring.Exploring.{Exploring}
use Rattle.command_line.specs.Noting.{ObeysNoted}

-- the answer to a program in this form, with this note; `timed` is whether the time of the exploration is limited
abbrev pub explores_as : ExploreForm → ExploreOrder → (timed : Bool) → (note : List ℕ) → Term → List ℕ → Status → Type 0
explores_as Report order timed note t = IsWithDraws IsWordsBehind order t
    (IsNotedExplored t order.limits order.bounds timed order.wants.items note)
explores_as Timeline order timed note t = IsWithDraws IsWordsBehind order t
    (IsNotedTold t order.limits order.bounds timed order.wants.items note)
explores_as Json order timed note t = IsWithDraws IsLineBehind order t
    (IsNotedJsonExplored t order.limits order.bounds timed order.wants.items note)

-- the answer to a refused text, in this form
abbrev pub explore_refuses : ExploreForm → List ℕ → List ℕ → Status → Type 0
explore_refuses Report = IsRefusalAnswer
explore_refuses Timeline = IsRefusalAnswer
explore_refuses Json = IsJsonRefusal

-- the text is answered; what is written to `err` is left open
abbrev pub ObeysWatched : (List ℕ → List ℕ → Status → Type 0) → (List ℕ → Term → List ℕ → Status → Type 0) → Devices →
    Devices → Status → Type 0
ObeysWatched Refuses Notes before after status = (note : List ℕ) × (outcome : Result Status TextFault) ×
    IsAnswered (IsNotedAnswer Refuses Notes note) before.input after.input before.out after.out outcome ×
    (status ≡ status_of outcome)

-- the text is answered, with its note and with what is asked for beside the answer
abbrev pub ObeysBeside : Beside → (List ℕ → List ℕ → Status → Type 0) → (List ℕ → Term → List ℕ → Status → Type 0) →
    Devices → Devices → Status → Type 0
ObeysBeside Nothing Refuses Notes before after status = ObeysNoted Refuses Notes IsTextReasons false before after status
ObeysBeside Progress Refuses Notes before after status = ObeysWatched Refuses Notes before after status
ObeysBeside Reasons Refuses Notes before after status = ObeysNoted Refuses Notes IsTextReasons true before after status

-- the form of a finding behind an answer
abbrev pub behind_as : (json : Bool) → Finding → List ℕ → Type 0
behind_as true = IsLineBehind
behind_as false = IsWordsBehind

abbrev pub ObeysExplore : Exploring → Devices → Devices → Status → Type 0
ObeysExplore exploring before after status = ObeysBeside exploring.beside (explore_refuses exploring.form)
    (explores_as exploring.form exploring.order (is_some exploring.seconds)) before after status
