-- Fibers that stand under one history go on in the core, beside the registry that the history leaves.
use Rattle.std.proofs.Common.{◌≡◌, ℕ, Bool, List, [], ◌∷◌, ◌++◌, length, map, Some, Ok, refl, sym, ap, ◌∙◌, subst, arith, eqb, eq-eqb, ne_eqb, append-nil}
use Rattle.std.{proofs.lemmas.List.{append_cancel_left, Elements.filter-append}, specs.{Prelude.cond, List.slice_get}}
use mathlib.Core.{List.IsPrefix, Logic.dite}
use native.Mathlib.Decide.{ℕ_discrete}
use Rattle.derived_ops.specs.{Tree.Tree, Naming.IsMore}
use Rattle.fiber_frames.specs.Fiber.{Fiber}
use Rattle.cell_registry.specs.{declared.{limits.Limits.Limits, call.Entry.Entry}, Cells.{Cells, after, cell_of, owned}, Histories.{IsLegal, calls_by, left}}
use Rattle.cell_registry.{specs.{Histories.left_from, Passes.{IsPass, PassView}}, proofs.Legal.{left_from-append, unborn_cell}}
use Rattle.scheduled_core.specs.{declared.report.Report.Report, Core.{World, core, fiber_report, first_world, reported}, Finals.{IsFinal, IsFinalReport}}
use Rattle.scheduled_core.specs.{Finals.IsSettledReport, Fitting.{AllFit, Fits, cell_registered, given_by, pass_registered, world_of}, Spending.SpendsSome}
use Rattle.scheduled_core.{specs.Stands.{IsOfSomeSchedule, Stands}, proofs.{Finality.final_settled, PlainFits.{fits_as, fits_more, plain_other}}}
use Rattle.scheduled_core.proofs.{Spending.{spends_core, spends_join}, Standing.Schedules.some_schedules}

-- what fits a pass fits the fiber's cell in the registry that the pass has seen
pub fits_pass : (p : PassView) (g : Fiber) → IsPass p → Fits (pass_registered p) g → Fits (cell_registered (left p.registry.limits p.seen) p.number) g
fits_pass p g lawful fits =
    let s = left p.registry.limits p.seen in
    let same : IsMore (given_by s) (given_by s) = record { fibers = omega arith; refs = omega arith; deferreds = omega arith } in
    fits_more _ (cell_of s p.number).request g
    (fits_as (pass_registered p) (owned (cell_of s p.number)) (given_by s) g fits (sym lawful.cell) same)
    lawful.request

-- calls of other fibers change nothing of that
fits_from : (s : Cells) (f : ℕ) (g : Fiber) (rest : List Entry) → Fits (cell_registered s f) g → calls_by f rest ≡ [] →
    Fits (cell_registered (left_from s rest) f) g
fits_from s f g [] fits none = fits
fits_from s f g (e ∷ rest) fits none = dite (ℕ_discrete e.by f)
    (λ is.
    let calls : calls_by f (e ∷ rest) ≡ e ∷ calls_by f rest = ap (λ (t : Bool). cond t (e ∷ calls_by f rest) (calls_by f rest)) (eq-eqb e.by f is) in
    let never : e ∷ calls_by f rest ≡ [] = sym calls ∙ none in absurd (cc))
    (λ isnt.
    let calls : calls_by f (e ∷ rest) ≡ calls_by f rest = ap (λ (t : Bool). cond t (e ∷ calls_by f rest) (calls_by f rest)) (ne_eqb e.by f isnt) in
    fits_from (after s e.by e.call) f g rest (plain_other s e.by e.call f g isnt fits) (sym calls ∙ none))

pub fits_longer : (k : Limits) (seen now : List Entry) (f : ℕ) (g : Fiber) → IsPrefix seen now → calls_by f now ≡ calls_by f seen →
    Fits (cell_registered (left k seen) f) g → Fits (cell_registered (left k now) f) g
unfolding left
fits_longer k seen now f g p own fits =
    let rest = p.0 in
    let more : calls_by f seen ++ calls_by f rest ≡ calls_by f seen ++ [] = sym (filter-append (λ (x : Entry). eqb x.by f) seen rest) ∙
    ap (calls_by f) p.1 ∙ own ∙ sym (append-nil (calls_by f seen)) in
    let none : calls_by f rest ≡ [] = append_cancel_left (calls_by f seen) (calls_by f rest) [] more in
    subst (λ (h : List Entry). Fits (cell_registered (left k h) f) g) p.1
    (subst (λ (s : Cells). Fits (cell_registered s f) g) (sym (left_from-append _ seen rest)) (fits_from (left k seen) f g rest fits none))

-- the states beside the registry that the whole history leaves: the entries of a schedule can go on there
pub all_gathered : (k : Limits) (h : List Entry) (states : List Fiber) → IsLegal k h → length states ≡ (left k h).next_fiber
    → ((f : ℕ) (g : Fiber) → slice_get states f ≡ Some g → Fits (cell_registered (left k h) f) g)
    → AllFit record { fibers = states; cells = left k h }
all_gathered k h states legal many each = record { many = many; each = each; unborn = λ f past. unborn_cell k h f legal past }

-- moves that lead from there on are those of a schedule
pub leads_on : (code : Tree) (most : ℕ) (k : Limits) (h : List Entry) (states : List Fiber) (lefts : List ℕ) (w : World) (last : List ℕ) → IsLegal k h →
    length states ≡ (left k h).next_fiber → length lefts ≡ length states
    → ((f : ℕ) (g : Fiber) → slice_get states f ≡ Some g → (n : ℕ) × (slice_get lefts f ≡ Some n) × Stands code most h f g n)
    → SpendsSome k (world_of states (left k h)) lefts w last
    → SpendsSome k (first_world code k) (most ∷ []) w last
leads_on code most k h states lefts w last legal many even each goes =
    let some = some_schedules code most k h states lefts legal many even each in
    (some.0 ++ goes.0, spends_join k (first_world code k) (world_of states (left k h)) w (most ∷ []) lefts last some.0 goes.0 some.1 goes.1)

-- they are a schedule of the core
pub schedule_of : (code : Tree) (most : ℕ) (k : Limits) (w : World) (last : List ℕ) → SpendsSome k (first_world code k) (most ∷ []) w last →
    (schedule : List ℕ) × (core code k schedule ≡ Ok w)
unfolding core
schedule_of code most k w last goes = (goes.0, spends_core k (first_world code k) w (most ∷ []) last goes.0 goes.1)

-- what such a world's fibers have come to is the report of a schedule
pub some_report : (code : Tree) (k : Limits) (w : World) → (schedule : List ℕ) × (core code k schedule ≡ Ok w) →
    IsOfSomeSchedule code k record { fibers = map fiber_report w.fibers }
some_report code k w leads = (leads.0, ap reported leads.1)

-- and a final one where the world is final
pub final_of : (code : Tree) (k : Limits) (w : World) → (schedule : List ℕ) × (core code k schedule ≡ Ok w) → IsFinal w →
    IsFinalReport code k record { fibers = map fiber_report w.fibers }
final_of code k w leads final = record { schedule = leads.0; world = w; leads = leads.1; final = final; reports = refl }

-- a final report is a settled one
pub settled_of : (code : Tree) (k : Limits) (report : Report) → IsFinalReport code k report → IsSettledReport code k report
settled_of code k report h = record {
  schedule = h.schedule;
  world = h.world;
  leads = h.leads;
  settled = final_settled k h.world h.final;
  reports = h.reports;
}
