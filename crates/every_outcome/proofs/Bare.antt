-- What holds of answers without marks holds of their outcomes.
use Rattle.std.proofs.Common.{◌≡◌, ◌&&◌, ℕ, zero, suc, Bool, true, false, cond, List, [], ◌∷◌, ◌++◌, length, map, Option, Some, Result, Ok, Err, refl, sym, ap}
use Rattle.std.{proofs.{Common.{ap₂, ◌∙◌, subst, ◌<◌, arith}, lemmas.Option.same_Some}, specs.List.{All, fold, slice_get}}
use Rattle.effect_term.specs.declared.reply.Outcome.{Outcome}
use Rattle.derived_ops.specs.Tree.{Tree}
use Rattle.fiber_frames.specs.{declared.mark.Mark.Mark, Fiber.{Fiber, outcome_of}}
use Rattle.cell_registry.specs.declared.limits.{Limits.Limits, RunError.RunError}
use Rattle.scheduled_core.specs.{declared.report.{FiberReport.FiberReport, Report.Report}, Core.{World, core, entered}}
use Rattle.every_schedule.specs.declared.exploration.Answer.{Answer}
use Rattle.every_outcome.specs.{declared.outcomes.OutcomeAnswer.OutcomeAnswer, Outcomes.{Agrees, IsCovered, IsListed, IsReached, KeepsOutcomes, ListOnce}}
use Rattle.every_outcome.specs.{Outcomes.{counted, outcomes}, Places.{is_say, keeps_mark, kept_marks, kept_report}, Private.Bare.{outcome_answer, outcomes_in}}
use Rattle.every_outcome.specs.Reports.{AgreesOn, IsReported, KeepsReport, Reaches, reports}
use Rattle.every_outcome.proofs.Told.{all_at, all_from}
use Rattle.cell_registry.specs.declared.limits.RunError.TheVariants as run
use Rattle.every_schedule.specs.Explored as explored

-- ---- reports without marks
never_kept : (t : Bool) (m : Mark) (ms : List Mark) → t ≡ false → cond t (m ∷ ms) ms ≡ ms
never_kept true m ms e = absurd (cc)
never_kept false m ms e = refl

and_false : (t : Bool) → t && false ≡ false
and_false true = refl
and_false false = refl

none_kept : (ms : List Mark) → kept_marks false ms ≡ []
none_kept [] = refl
none_kept (m ∷ ms) = never_kept (keeps_mark false m) m (kept_marks false ms) (and_false (is_say m)) ∙ none_kept ms

-- the report with this outcome and no marks
abbrev bare : Option Outcome → FiberReport
bare o = record { outcome = o; marks = [] }

abbrev report_of : List FiberReport → Report
report_of l = record { fibers = l }

report_bare : (g : Fiber) → kept_report false g ≡ bare (outcome_of g)
report_bare g = ap (λ (ms : List Mark). let r : FiberReport = record { outcome = outcome_of g; marks = ms } in r) (none_kept g.marks)

all_bare : (gs : List Fiber) → map (kept_report false) gs ≡ map bare (map outcome_of gs)
all_bare [] = refl
all_bare (g ∷ gs) = ap₂ (λ (r : FiberReport) (l : List FiberReport). r ∷ l) (report_bare g) (all_bare gs)

outcomes_told : (gs : List Fiber) → map (λ (f : FiberReport). f.outcome) (map (kept_report false) gs) ≡ map outcome_of gs
outcomes_told [] = refl
outcomes_told (g ∷ gs) = ap (λ (l : List (Option Outcome)). outcome_of g ∷ l) (outcomes_told gs)

-- the outcomes of what a schedule leads to
outcomes_reports : (x : Result World RunError) → outcomes_in (reports false x) ≡ outcomes x
outcomes_reports (Ok w) = ap Ok (outcomes_told w.fibers)
outcomes_reports (Err e) = refl

-- they determine its report
abbrev end_of : Result (List (Option Outcome)) RunError → Result Report RunError
end_of (Ok os) = Ok (report_of (map bare os))
end_of (Err e) = Err e

reports_back : (x : Result World RunError) → reports false x ≡ end_of (outcomes x)
reports_back (Ok w) = ap (λ l. Ok (report_of l)) (all_bare w.fibers)
reports_back (Err e) = refl

-- ---- lists of answers
get_map : (xs : List Answer) (i : ℕ) (a : Answer) → slice_get xs i ≡ Some a → slice_get (map outcome_answer xs) i ≡ Some (outcome_answer a)
get_map [] i a e = absurd (cc)
get_map (x ∷ xs) zero a e = ap (λ (y : Answer). Some (outcome_answer y)) (same_Some x a e)
get_map (x ∷ xs) (suc i) a e = get_map xs i a e

got_map : (xs : List Answer) (i : ℕ) (b : OutcomeAnswer) → slice_get (map outcome_answer xs) i ≡ Some b →
    (a : Answer) × (slice_get xs i ≡ Some a) × (outcome_answer a ≡ b)
got_map [] i b e = absurd (cc)
got_map (x ∷ xs) zero b e = (x, refl, same_Some (outcome_answer x) b e)
got_map (x ∷ xs) (suc i) b e = got_map xs i b e

module _ (answers : List Answer) where
  abbrev all : List OutcomeAnswer
  all = map outcome_answer answers

  pub listed_bare : (x : Result World RunError) → explored.IsListed answers (reports false x) → IsListed all (outcomes x)
  listed_bare x h = (h.0, outcome_answer h.1, get_map answers h.0 h.1 h.2, ap outcomes_in h.3 ∙ outcomes_reports x)

  agrees_up : (w : World) (x : Result World RunError) → Agrees (outcomes (Ok w)) x → AgreesOn false (reports false (Ok w)) x
  agrees_up w (Ok v) h = reports_back (Ok v) ∙ ap end_of h ∙ sym (reports_back (Ok w))
  agrees_up w (Err (run.Full b m)) h = absurd (cc)
  agrees_up w _ h = tt

  keeps_up : (k : Limits) (w : World) → KeepsOutcomes k w → KeepsReport false k w
  keeps_up k w h = λ count more. agrees_up w (fold (entered (counted k count)) (Ok w) more) (h count more)

  pub covered_bare : (k : Limits) (x : Result World RunError) → IsReported false k answers x → IsCovered k all x
  covered_bare k (Ok w) h = λ stays. listed_bare (Ok w) (h (keeps_up k w stays))
  covered_bare k (Err (run.Full b m)) h = listed_bare (Err (run.Full b m)) h
  covered_bare k _ h = tt

  agrees_down : (end : Result Report RunError) (x : Result World RunError) → AgreesOn false end x → Agrees (outcomes_in end) x
  agrees_down end (Ok w) h = sym (outcomes_reports (Ok w)) ∙ ap outcomes_in h
  agrees_down end (Err (run.Full b m)) h = ap outcomes_in h
  agrees_down end _ h = tt

  module _ (code : Tree) (k : Limits) (right : All (Reaches false code k) answers) where
    reached_one : (a : Answer) → Reaches false code k a → IsReached code k (outcome_answer a)
    reached_one a h = record {
      leads = λ n l. sym (outcomes_reports (core code (counted k n) a.schedule)) ∙ ap outcomes_in (h.leads n l);
      stays = λ n more. agrees_down a.end (core code (counted k n) (a.schedule ++ more)) (h.stays n more);
    }

    pub reached_bare : All (IsReached code k) all
    reached_bare = all_from (IsReached code k) all (λ i b e.
        let a = got_map answers i b e in
        subst (IsReached code k) a.2 (reached_one a.0 (all_at (Reaches false code k) answers i a.0 a.1 right)))

    -- the end of an answer has no marks
    end_bare : (a : Answer) → Reaches false code k a → a.end ≡ end_of (outcomes_in a.end)
    end_bare a h =
        let x = core code (counted k (length a.schedule)) a.schedule in
        let is : reports false x ≡ a.end = h.leads (length a.schedule) (omega arith) in
        sym is ∙ reports_back x ∙ ap end_of (sym (outcomes_reports x) ∙ ap outcomes_in is)

    pub once_bare : explored.ListOnce answers → ListOnce all
    once_bare once i j b d less atb atd = λ same.
        let a = got_map answers i b atb in
        let c = got_map answers j d atd in
        let ends : outcomes_in a.0.end ≡ outcomes_in c.0.end =
        ap (λ (y : OutcomeAnswer). y.end) a.2 ∙ same ∙ sym (ap (λ (y : OutcomeAnswer). y.end) c.2) in
        once i j a.0 c.0 less a.1 c.1
        (end_bare a.0 (all_at (Reaches false code k) answers i a.0 a.1 right) ∙ ap end_of ends
        ∙ sym (end_bare c.0 (all_at (Reaches false code k) answers j c.0 c.1 right)))

  pub numbers_bare : All (λ a. All (λ f. f < 1000) a.schedule) answers → All (λ a. All (λ f. f < 1000) a.schedule) all
  numbers_bare h = all_from (λ a. All (λ f. f < 1000) a.schedule) all (λ i b e.
      let a = got_map answers i b e in
      subst (λ (y : OutcomeAnswer). All (λ f. f < 1000) y.schedule) a.2 (all_at (λ a. All (λ f. f < 1000) a.schedule) answers i a.0 a.1 h))
