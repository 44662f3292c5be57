-- The answers to a text whose program is explored, with a timeline after each answer.
use Rattle.std.specs.Prelude.{◌≡◌, ℕ, Bool, true, false, List, [], ◌∷◌, ◌++◌}
use Rattle.std.specs.List.{filter}
use Rattle.cell_registry.specs.declared.limits.Limits.{Limits}
use Rattle.derived_ops.specs.Expansion.{code_of}
use Rattle.derived_ops.specs.Reading.{source_of}
use Rattle.effect_term.specs.declared.term.Term.{Term}
use Rattle.text_io.specs.declared.status.Status.{Status}
use Rattle.outcome_trace.specs.Answers.{IsProgramAnswer, IsRefusalAnswer}
use Rattle.every_schedule.specs.declared.exploration.Answer.{Answer}
use Rattle.every_schedule.specs.declared.exploration.Exploration.{Exploration}
use Rattle.world_search.specs.declared.answers.Bounds.{Bounds}
use Rattle.exploration_text.specs.declared.wants.Want.{Want}
use Rattle.exploration_text.specs.ExplorationText.{IsAnswerText, exploration_status, first_line, is_listed_so}
use Rattle.exploration_text.specs.Missing.{missing_of_exploration}
use Rattle.exploration_text.specs.ExploreAnswers.{IsExplorationOf}

-- the text of an answer as in the text of its exploration, then a blank line and a timeline
pub record IsToldText (unwanted : Bool) (a : Answer) (text : List ℕ) : Type 0 where
  pub front : List ℕ
  pub timeline : List ℕ
  pub text_is : text ≡ front ++ 10 ∷ timeline
  pub answer_is : IsAnswerText unwanted a front

-- the texts of answers with timelines, one after another
abbrev pub AreToldTexts : Bool → List Answer → List ℕ → Type 0
AreToldTexts unwanted [] text = text ≡ []
AreToldTexts unwanted (a ∷ answers) text = (front : List ℕ) × (behind : List ℕ) × (text ≡ front ++ behind) ×
    IsToldText unwanted a front × AreToldTexts unwanted answers behind

-- the texts of the answers that are listed as unwanted, or of the other answers
abbrev pub IsToldPart : Bool → List Want → List Answer → List ℕ → Type 0
IsToldPart unwanted wants answers text =
    AreToldTexts unwanted (filter (λ a. is_listed_so unwanted wants a) answers) text

-- the first line of the text of the exploration, then the unwanted answers, and then the others
pub record IsToldExploration (wants : List Want) (e : Exploration) (text : List ℕ) : Type 0 where
  pub unwanted : List ℕ
  pub others : List ℕ
  pub text_is : text ≡ first_line e ++ (unwanted ++ others)
  pub unwanted_is : IsToldPart true wants e.answers unwanted
  pub others_are : IsToldPart false wants e.answers others

-- the text of an exploration of the program, with timelines, and the status of the exploration; `timed` is whether its
-- time was limited
pub record IsToldExplored (t : Term) (limits : Limits) (bounds : Bounds) (timed : Bool) (wants : List Want)
    (answer : List ℕ) (status : Status) : Type 0
  where
    pub exploration : Exploration
    pub explored : IsExplorationOf (code_of (source_of t)) limits bounds timed exploration
    pub text_is : IsToldExploration wants exploration answer
    pub status_is : status ≡ exploration_status wants exploration

-- the same text and status; the note has the lines of the wanted outcomes to which no answer leads
pub record IsNotedTold (t : Term) (limits : Limits) (bounds : Bounds) (timed : Bool) (wants : List Want)
    (note answer : List ℕ) (status : Status) : Type 0
  where
    pub told : IsToldExplored t limits bounds timed wants answer status
    pub note_is : note ≡ missing_of_exploration wants told.exploration

-- the answer to a text under limits, with its status: a refusal, or the exploration of its program, with timelines
abbrev pub IsExploreTimeline : Limits → Bounds → (timed : Bool) → List Want → List ℕ → List ℕ → Status → Type 0
IsExploreTimeline limits bounds timed wants =
    IsProgramAnswer IsRefusalAnswer (λ t. IsToldExplored t limits bounds timed wants)
