-- The wanted outcomes of fiber 0 that no answer has.
use Rattle.std.specs.Prelude.{ℕ, Bool, true, false, if◌then◌else◌, List, [], ◌∷◌, ◌++◌, codes, Result, Ok, Err}
use Rattle.std.specs.List.{list_any}
use Rattle.cell_registry.specs.declared.limits.RunError.{RunError}
use Rattle.scheduled_core.specs.declared.report.Report.{Report}
use Rattle.every_schedule.specs.declared.exploration.Exploration.{Exploration}
use Rattle.sampled_schedules.specs.declared.comings.Sample.{Sample}
use Rattle.exploration_text.specs.declared.wants.Want.{Want}
use Rattle.exploration_text.specs.Wants.{first_outcome, is_met, want_text}

-- whether an end is a report in which fiber 0 has the wanted outcome
abbrev pub has_outcome : Want → Result Report RunError → Bool
has_outcome want (Ok r) = is_met want (first_outcome r.fibers)
has_outcome want (Err e) = false

-- the text before an outcome that no answer has; the `Bool` is whether every schedule was explored
abbrev pub missing_front : Bool → List ℕ
missing_front true = codes "no schedule comes to `"
missing_front false = codes "no schedule was found that comes to `"

abbrev pub missing_line : Bool → Want → List ℕ
missing_line all want = missing_front all ++ (want_text want ++ (96 ∷ 10 ∷ []))

-- the lines of the wanted outcomes for which `comes` is false, in their order
abbrev pub missing_lines : Bool → (Want → Bool) → List Want → List ℕ
missing_lines all comes [] = []
missing_lines all comes (want ∷ wants) =
    if comes want then missing_lines all comes wants else missing_line all want ++ missing_lines all comes wants

-- the lines of an exploration
abbrev pub missing_of_exploration : List Want → Exploration → List ℕ
missing_of_exploration wants e = missing_lines e.complete (λ want. list_any (λ a. has_outcome want a.end) e.answers) wants

-- the lines of a sample
abbrev pub missing_of_sample : List Want → Sample → List ℕ
missing_of_sample wants s = missing_lines false (λ want. list_any (λ c. has_outcome want c.answer.end) s.comings) wants
