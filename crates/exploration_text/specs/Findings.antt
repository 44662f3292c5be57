-- The first finding of a program, and the answer of a search for it.
use Rattle.std.specs.Prelude.{◌≡◌, ◌⊎◌, ◌<◌, ℕ, Bool, true, false, List, [], ◌∷◌, ◌++◌, codes, length, Some}
use Rattle.std.specs.Prelude.{Result, Ok, Err, min}
use Rattle.std.specs.List.{All}
use Rattle.cell_registry.specs.declared.limits.Limits.{Limits}
use Rattle.cell_registry.specs.declared.limits.RunError.{RunError}
use Rattle.derived_ops.specs.Expansion.{code_of}
use Rattle.derived_ops.specs.Reading.{source_of}
use Rattle.derived_ops.specs.Tree.{Tree}
use Rattle.effect_term.specs.declared.reply.Outcome.{Outcome}
use Rattle.effect_term.specs.declared.term.Term.{Term}
use Rattle.text_io.specs.declared.status.Status.{Status}
use Rattle.text_io.specs.declared.status.Status.TheVariants as ends
use Rattle.text_io.specs.Schedule.{SpellsEntries}
use Rattle.scheduled_core.specs.declared.report.Report.{Report}
use Rattle.scheduled_core.specs.Core.{core, reported}
use Rattle.every_schedule.specs.declared.exploration.Answer.{Answer}
use Rattle.every_schedule.specs.declared.exploration.Exploration.{Exploration}
use Rattle.every_schedule.specs.Explored.{IsReached}
use Rattle.world_search.specs.declared.answers.Bounds.{Bounds}
use Rattle.exploration_text.specs.declared.findings.Finding.{Finding}
use Rattle.exploration_text.specs.declared.findings.First.{First}
use Rattle.exploration_text.specs.declared.findings.First.TheVariants.{Explored, Found}
use Rattle.exploration_text.specs.declared.wants.Want.{Want}
use Rattle.exploration_text.specs.ExplorationText.{IsSpellable, end_text, has_failure}
use Rattle.exploration_text.specs.ExploreAnswers.{IsExplorationOf, IsExploredAnswer}
use Rattle.exploration_text.specs.Missing.{missing_of_exploration}
use Rattle.exploration_text.specs.Wants.{first_outcome, is_failure}

-- the end is a report in which fiber 0 has ended
abbrev pub HasEndedFirst : Result Report RunError → Type 0
HasEndedFirst (Ok r) = (o : Outcome) × (first_outcome r.fibers ≡ Some o)
HasEndedFirst (Err e) = ⊥

-- The schedule of a finding leads to its end, which is a fault, or not wanted. No further entry changes this end, or
-- fiber 0 has ended in it. The schedule can be spelled.
pub record IsFinding (code : Tree) (limits : Limits) (wants : List Want) (f : Finding) : Type 0 where
  pub reached : reported (core code limits f.answer.schedule) ≡ f.answer.end
  pub unwanted : is_failure wants f.answer.end ≡ true
  pub last : f.last ≡ true → IsReached code limits f.answer
  pub ended : f.last ≡ false → HasEndedFirst f.answer.end
  pub spelled : IsSpellable f.answer

-- a finding, or an exploration that lists none
abbrev pub IsFirst : Tree → Limits → Bounds → (timed : Bool) → List Want → First → Type 0
IsFirst code limits bounds timed wants (Found f) = IsFinding code limits wants f
IsFirst code limits bounds timed wants (Explored e) =
    IsExplorationOf code limits bounds timed e × (has_failure wants e.answers ≡ false) × All IsSpellable e.answers

-- how a finding was found
abbrev pub source_text : Bool → List ℕ
source_text true = codes "found at random: not wanted, "
source_text false = codes "found by search: not wanted, "

-- whether further entries can change the end of a finding
abbrev pub extent_text : Bool → List ℕ
extent_text true = codes "final, under "
extent_text false = codes "others may go on, under "

-- the text of a finding: how it was found, whether its end is final, its schedule in quotes, and its end
pub record IsFindingText (f : Finding) (text : List ℕ) : Type 0 where
  pub schedule : List ℕ
  pub spelled : SpellsEntries schedule f.answer.schedule
  pub text_is : text ≡ source_text f.drawn ++ (extent_text f.last ++
      (34 ∷ (schedule ++ (34 ∷ 10 ∷ end_text f.answer.end))))

-- the text of a finding, with the status `Errored`
pub record IsFoundAnswer (t : Term) (limits : Limits) (wants : List Want) (answer : List ℕ) (status : Status) : Type 0
  where
    pub finding : Finding
    pub found : IsFinding (code_of (source_of t)) limits wants finding
    pub text_is : IsFindingText finding answer
    pub status_is : status ≡ ends.Errored

-- the text and the status of an exploration that lists no finding
pub record IsUnfoundAnswer (t : Term) (limits : Limits) (bounds : Bounds) (timed : Bool) (wants : List Want)
    (answer : List ℕ) (status : Status) : Type 0
  where
    pub explored : IsExploredAnswer t limits bounds timed wants answer status
    pub none : has_failure wants explored.exploration.answers ≡ false

-- such a text and status, and the lines of the wanted outcomes that no schedule comes to
pub record IsNotedUnfound (t : Term) (limits : Limits) (bounds : Bounds) (timed : Bool) (wants : List Want)
    (note answer : List ℕ) (status : Status) : Type 0
  where
    pub unfound : IsUnfoundAnswer t limits bounds timed wants answer status
    pub note_is : note ≡ missing_of_exploration wants unfound.explored.exploration

-- the answer to a program, with its note and its status: a finding, which has no note, or an exploration that lists no
-- finding
abbrev pub IsFirstAnswer : Term → Limits → Bounds → (timed : Bool) → List Want → (note : List ℕ) → List ℕ → Status →
    Type 0
IsFirstAnswer t limits bounds timed wants note answer status =
    (IsFoundAnswer t limits wants answer status × (note ≡ [])) ⊎
    IsNotedUnfound t limits bounds timed wants note answer status

-- ---- for private clauses

-- the search has a finding, is complete, or was ended by its watcher
abbrev pub IsDecided : First → Type 0
IsDecided (Found f) = Unit {0}
IsDecided (Explored e) = (e.complete ≡ true) ⊎ (e.halted ≡ true)

-- a finding that was drawn at random
abbrev pub IsDrawn : Tree → Limits → List Want → Finding → Type 0
IsDrawn code limits wants f = IsFinding code limits wants f × (f.drawn ≡ true)

-- these bounds, with at most this number of worlds
abbrev pub bounds_within : Bounds → ℕ → Bounds
bounds_within bounds worlds = record bounds { worlds = min bounds.worlds worlds }

-- the result of the later of two searches, or, if its watcher ended it, the result of the one before, marked as ended
abbrev pub IsOfMore : (before later result : First) → Type 0
IsOfMore before later result = (result ≡ later) ⊎
    ((e : Exploration) × (last : Exploration) × (before ≡ Explored e) × (later ≡ Explored last) ×
    (last.halted ≡ true) × (result ≡ Explored (record e { halted = true })))

-- the schedule has fewer than `most` entries, or leads to a fault
abbrev pub IsLast : ℕ → Answer → Type 0
IsLast most a = (length a.schedule < most) ⊎ ((e : RunError) × (a.end ≡ Err e))

-- an answer whose schedule has at most `most` entries is a finding: its end is final, or fiber 0 has ended
pub data Shows (wants : List Want) (most : ℕ) (a : Answer) : (last : Bool) → Type 0 where
  final : is_failure wants a.end ≡ true → IsLast most a → Shows wants most a true
  ended : is_failure wants a.end ≡ true → HasEndedFirst a.end → Shows wants most a false
