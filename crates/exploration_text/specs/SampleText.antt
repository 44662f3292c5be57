-- The text of a sample.
use Rattle.std.specs.Prelude.{◌≡◌, ℕ, Bool, true, false, if◌then◌else◌, List, [], ◌∷◌, ◌++◌, codes, count_by}
use Rattle.std.specs.Prelude.{Option, None, Result, Ok, Err}
use Rattle.std.specs.List.{list_any}
use Rattle.std.specs.Result.{is_ok, is_err}
use Rattle.effect_term.specs.declared.reply.Outcome.{Outcome}
use Rattle.cell_registry.specs.declared.limits.RunError.{RunError}
use Rattle.scheduled_core.specs.declared.report.Report.{Report}
use Rattle.text_io.specs.declared.status.Status.{Status}
use Rattle.text_io.specs.declared.status.Status.TheVariants as ends
use Rattle.text_io.specs.Schedule.{SpellsEntries}
use Rattle.exploration_text.specs.ExplorationText.{counted, end_text}
use Rattle.sampled_schedules.specs.declared.comings.Coming.{Coming}
use Rattle.sampled_schedules.specs.declared.comings.Sample.{Sample}
use Rattle.exploration_text.specs.declared.wants.Want.{Want}
use Rattle.exploration_text.specs.Wants.{first_outcome, is_failure}

-- whether a fiber with this outcome can still end: it hasn't ended, and each schedule that came to it was cut short
abbrev pub may_end : Bool → Option Outcome → Bool
may_end true None = true
may_end _ _ = false

-- Whether an end is a finding: a fault, or, if outcomes are wanted, a report in which fiber 0 has another outcome and
-- can't still end.
abbrev pub is_finding : List Want → Bool → Result Report RunError → Bool
is_finding wants cut (Err e) = true
is_finding wants cut (Ok r) = if may_end cut (first_outcome r.fibers) then false else is_failure wants (Ok r)

-- whether an answer is listed as not wanted; if no outcome is wanted, none is
abbrev pub is_unwanted : List Want → Coming → Bool
is_unwanted [] c = false
is_unwanted (w ∷ wants) c = is_finding (w ∷ wants) c.cut c.answer.end

-- the numbers of schedules that were drawn, and of the reports and faults that they led to
abbrev pub first_line : Sample → List ℕ
first_line s = codes "sampled " ++
    (counted s.schedules (codes "schedule") ++ (codes ": " ++
    (counted (count_by (λ c. is_ok c.answer.end) s.comings) (codes "report") ++ (codes ", " ++
    (counted (count_by (λ c. is_err c.answer.end) s.comings) (codes "fault") ++ 10 ∷ [])))))

-- the text between how often an answer came and its schedule: whether each of its schedules was cut short
abbrev pub between : Bool → List ℕ
between true = codes ", cut short, first under "
between false = codes ", first under "

-- the front of an answer: a blank line, and whether the answer is wanted
abbrev pub front : Bool → List ℕ
front true = 10 ∷ codes "not wanted, came "
front false = 10 ∷ codes "came "

-- the text before the schedule of an answer that came this number of times
abbrev pub heading : Bool → ℕ → Bool → List ℕ
heading unwanted times cut = front unwanted ++ (counted times (codes "time") ++ between cut)

-- a blank line, whether the answer is not wanted, how often it came, whether all its schedules were cut short, the
-- first of them in quotes, and the answer
pub record IsComingText (wants : List Want) (c : Coming) (text : List ℕ) : Type 0 where
  pub schedule : List ℕ
  pub spelled : SpellsEntries schedule c.answer.schedule
  pub text_is : text ≡ heading (is_unwanted wants c) c.times c.cut ++ (34 ∷ (schedule ++ (34 ∷ 10 ∷ end_text c.answer.end)))

-- the texts of answers, one after another
abbrev pub AreComingsText : List Want → List Coming → List ℕ → Type 0
AreComingsText wants [] text = text ≡ []
AreComingsText wants (c ∷ comings) text = (first : List ℕ) × (behind : List ℕ) × (text ≡ first ++ behind) ×
    IsComingText wants c first × AreComingsText wants comings behind

-- the first line, then the answers
pub record IsSampleText (wants : List Want) (s : Sample) (text : List ℕ) : Type 0 where
  pub rest : List ℕ
  pub text_is : text ≡ first_line s ++ rest
  pub comings_are : AreComingsText wants s.comings rest

-- whether one of the answers is a finding
abbrev pub has_finding : List Want → List Coming → Bool
has_finding wants comings = list_any (λ c. is_finding wants c.cut c.answer.end) comings

-- the status of a sample: `Errored` if an answer is a finding, else `Succeeded`
abbrev pub sample_status : List Want → Sample → Status
sample_status wants s = if has_finding wants s.comings then ends.Errored else ends.Succeeded
