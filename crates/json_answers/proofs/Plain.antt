-- No value of an answer holds a number with a point.
use Rattle.std.proofs.Common.{◌≡◌, ℕ, ◌+◌, ℤ, pos, negsuc, Bool, false, List, [], ◌∷◌, ◌||◌, Option, Some, None, refl, ap₂}
use Rattle.cell_registry.specs.declared.limits.RunError.{RunError}
use Rattle.effect_term.specs.declared.{refusal.TermError.TermError, reply.Outcome.{Outcome, TheVariants.{Succeeded, Errored, Canceled}}}
use Rattle.term_parse.specs.declared.error.ParseError.{ParseError}
use Rattle.fiber_frames.specs.declared.mark.Mark.{Mark, TheVariants.{Say, Dropped}}
use Rattle.scheduled_core.specs.declared.report.FiberReport.{FiberReport}
use Rattle.serde_json.specs.{Find.{is_float, of_integer}, Written.{has_float, items_have_float}}
use Rattle.json_answers.specs.{ReportData.{fault_data, fiber_data, fibers_items, mark_data, marks_items, outcome_data, report_data}, Refusals.parse_data}
use Rattle.json_answers.specs.Refusals.{term_data}
use Rattle.cell_registry.specs.declared.limits.RunError.TheVariants as run
use Rattle.effect_term.specs.declared.refusal.TermError.TheVariants as term
use Rattle.term_parse.specs.declared.error.ParseError.TheVariants as parse

integer_plain : (z : ℤ) → is_float (of_integer z) ≡ false
integer_plain (pos n) = refl
integer_plain (negsuc n) = refl

pub or_plain : (a b : Bool) → a ≡ false → b ≡ false → (a || b) ≡ false
or_plain a b h k = ap₂ (λ x y. x || y) h k

mark_plain : (m : Mark) → has_float (mark_data m) ≡ false
mark_plain (Say v) = or_plain (is_float (of_integer v)) false (integer_plain v) refl
mark_plain (Dropped c) = or_plain (is_float (of_integer c)) false (integer_plain c) refl
mark_plain _ = refl

marks_plain : (ms : List Mark) → items_have_float (marks_items ms) ≡ false
marks_plain [] = refl
marks_plain (m ∷ ms) = or_plain (has_float (mark_data m)) (items_have_float (marks_items ms)) (mark_plain m) (marks_plain ms)

outcome_plain : (o : Option Outcome) → has_float (outcome_data o) ≡ false
outcome_plain (Some (Succeeded v)) = or_plain (is_float (of_integer v)) false (integer_plain v) refl
outcome_plain (Some (Errored c)) = or_plain (is_float (of_integer c)) false (integer_plain c) refl
outcome_plain (Some Canceled) = refl
outcome_plain None = refl

fiber_plain : (n : ℕ) (f : FiberReport) → has_float (fiber_data n f) ≡ false
fiber_plain n f =
    or_plain (items_have_float (marks_items f.marks)) (has_float (outcome_data f.outcome) || false) (marks_plain f.marks)
    (or_plain (has_float (outcome_data f.outcome)) false (outcome_plain f.outcome) refl)

fibers_plain : (n : ℕ) (fs : List FiberReport) → items_have_float (fibers_items n fs) ≡ false
fibers_plain n [] = refl
fibers_plain n (f ∷ fs) =
    or_plain (has_float (fiber_data n f)) (items_have_float (fibers_items (n + 1) fs)) (fiber_plain n f) (fibers_plain (n + 1) fs)

pub report_plain : (fs : List FiberReport) → has_float (report_data fs) ≡ false
report_plain fs = or_plain (items_have_float (fibers_items 0 fs)) false (fibers_plain 0 fs) refl

pub fault_plain : (e : RunError) → has_float (fault_data e) ≡ false
fault_plain (run.Full band n) = refl
fault_plain _ = refl

pub parse_plain : (e : ParseError) → has_float (parse_data e) ≡ false
parse_plain parse.NoMemory = refl
parse_plain _ = refl

pub term_plain : (e : TermError) → has_float (term_data e) ≡ false
term_plain term.NoMemory = refl
term_plain _ = refl
