-- The text of an exploration.
use Rattle.std.specs.Prelude.{◌≡◌, ◌==◌, ◌<◌, ◌≤◌, ℕ, Bool, true, false, not, if◌then◌else◌, List, [], ◌∷◌, ◌++◌, codes}
use Rattle.std.specs.Prelude.{Result, Ok, Err, count_by, length}
use Rattle.std.specs.List.{All, filter, list_any}
use Rattle.std.specs.Result.{is_ok, is_err}
use Rattle.std.specs.Fmt.{decimal}
use Rattle.cell_registry.specs.declared.limits.RunError.{RunError}
use Rattle.scheduled_core.specs.declared.report.Report.{Report}
use Rattle.outcome_trace.specs.Lines.{run_line}
use Rattle.outcome_trace.specs.ReportText.{text_of_fibers}
use Rattle.text_io.specs.declared.status.Status.{Status}
use Rattle.text_io.specs.declared.status.Status.TheVariants as ends
use Rattle.text_io.specs.Schedule.{SpellsEntries}
use Rattle.every_schedule.specs.declared.exploration.Answer.{Answer}
use Rattle.every_schedule.specs.declared.exploration.Exploration.{Exploration}
use Rattle.exploration_text.specs.declared.wants.Want.{Want}
use Rattle.exploration_text.specs.Wants.{is_failure, is_unwanted}

-- a number with its noun, as `1 world` and `2 worlds`
abbrev pub counted : ℕ → List ℕ → List ℕ
counted n noun = decimal n ++ (codes " " ++ (noun ++ (if n == 1 then [] else codes "s")))

-- the end of the first line, with the number of bytes if not every schedule was explored
abbrev pub line_end : (complete : Bool) → (bytes : ℕ) → List ℕ
line_end true bytes = 10 ∷ []
line_end false bytes = codes ", " ++ (counted bytes (codes "byte") ++ 10 ∷ [])

-- the front of the first line: whether every schedule was explored, and if not, whether the time was over
abbrev pub line_front : (complete halted : Bool) → List ℕ
line_front true halted = codes "explored "
line_front false true = codes "stopped by time at "
line_front false false = codes "stopped at "

-- whether every schedule was explored, the numbers of worlds, reports and faults, and, if not every schedule was
-- explored, the number of bytes
abbrev pub first_line : Exploration → List ℕ
first_line e = line_front e.complete e.halted ++
    (counted e.worlds (codes "world") ++ (codes ": " ++
    (counted (count_by (λ a. is_ok a.end) e.answers) (codes "report") ++ (codes ", " ++
    (counted (count_by (λ a. is_err a.end) e.answers) (codes "fault") ++ line_end e.complete e.bytes)))))

-- what `replay` writes: the report, or the fault's line
abbrev pub end_text : Result Report RunError → List ℕ
end_text (Ok r) = text_of_fibers r.fibers
end_text (Err e) = run_line e

-- the text before the schedule of an answer
abbrev pub heading : Bool → List ℕ
heading true = 10 ∷ codes "not wanted, under "
heading false = 10 ∷ codes "under "

-- the schedule of an answer has at most 1,000,000 entries, each below 1000
pub record IsSpellable (a : Answer) : Type 0 where
  pub numbers : All (λ f. f < 1000) a.schedule
  pub few : length a.schedule ≤ 1000000

-- a blank line, the answer's schedule in quotes, and its end
pub record IsAnswerText (unwanted : Bool) (a : Answer) (text : List ℕ) : Type 0 where
  pub schedule : List ℕ
  pub spelled : SpellsEntries schedule a.schedule
  pub text_is : text ≡ heading unwanted ++ (34 ∷ (schedule ++ (34 ∷ 10 ∷ end_text a.end)))

-- the texts of answers, one after another
abbrev pub AreAnswersText : Bool → List Answer → List ℕ → Type 0
AreAnswersText unwanted [] text = text ≡ []
AreAnswersText unwanted (a ∷ answers) text = (front : List ℕ) × (behind : List ℕ) × (text ≡ front ++ behind) ×
    IsAnswerText unwanted a front × AreAnswersText unwanted answers behind

-- whether an answer is one of those that are listed as not wanted, or one of the others
abbrev pub is_listed_so : Bool → List Want → Answer → Bool
is_listed_so true wants a = is_unwanted wants a
is_listed_so false wants a = not (is_unwanted wants a)

-- the text of the answers that are listed as not wanted, or of the others
abbrev pub IsPartText : Bool → List Want → List Answer → List ℕ → Type 0
IsPartText unwanted wants answers text =
    AreAnswersText unwanted (filter (λ a. is_listed_so unwanted wants a) answers) text

-- the first line, then the answers that are not wanted, and then the others
pub record IsExplorationText (wants : List Want) (e : Exploration) (text : List ℕ) : Type 0 where
  pub unwanted : List ℕ
  pub others : List ℕ
  pub text_is : text ≡ first_line e ++ (unwanted ++ others)
  pub unwanted_is : IsPartText true wants e.answers unwanted
  pub others_are : IsPartText false wants e.answers others

-- whether one of the answers is a failure
abbrev pub has_failure : List Want → List Answer → Bool
has_failure wants answers = list_any (λ a. is_failure wants a.end) answers

-- the status of an exploration: `Errored` if an answer is a failure, else `Succeeded` if it is complete, else `Unended`
abbrev pub exploration_status : List Want → Exploration → Status
exploration_status wants e =
    if has_failure wants e.answers then ends.Errored else (if e.complete then ends.Succeeded else ends.Unended)
