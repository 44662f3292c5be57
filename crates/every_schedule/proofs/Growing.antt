-- Reports grow: each entry leaves the report as it is, or makes it larger.
use Rattle.std.proofs.Common.{◌≡◌, ◌⊎◌, inl, inr, ℕ, zero, suc, ◌+◌, ◌<◌, List, [], ◌∷◌, ◌++◌, length, map, set, Some, None, Option, Ok, refl, sym, ap, ◌∙◌}
use Rattle.std.{proofs.Common.{subst, arith, append-nil, length-append}, specs.List.slice_get}
use Rattle.effect_term.specs.declared.reply.{Outcome.Outcome, Reply.{Reply, TheVariants.Done}}
use Rattle.derived_ops.specs.Tree.{Mask}
use Rattle.fiber_frames.specs.{declared.{ask.Look.Look, mark.Mark.Mark}, Path.{Running, Runs, Final, Over, Broken}, Rows.Row, Fiber.{Fiber, Move_case, Looks}}
use Rattle.fiber_frames.specs.Fiber.{Cuts, Reduces, Rests, active_of, ask_of, case_in, move, move_case, move_in, outcome_in, outcome_of, reduced, row_of}
use Rattle.fiber_frames.specs.Fiber.{silent_move}
use Rattle.cell_registry.specs.{declared.{limits.{Limits.Limits, CellError.CellError}, call.Call.Call}, Cells.{refusal, reply_of}}
use Rattle.scheduled_core.specs.{declared.{wish.Wish.{Wish, TheVariants.{Shared, Alone, Nothing}}, report.{FiberReport.FiberReport, Report.Report}}, Core.World}
use Rattle.scheduled_core.{specs.Core.{answered, born, fiber_report, turned, wish_of, wished}, proofs.SameReports.reports_alike}
use Rattle.world_search.specs.Free.{AreGrowing}
use Rattle.every_schedule.specs.Places.{Place, placed, report_at, entering as stepped}
use Rattle.fiber_frames.specs.declared.mark.Mark.TheVariants as mark

-- ---- one fiber
abbrev ended : Option Outcome → ℕ
ended None = 0
ended (Some o) = 1

-- the size of a fiber's report: 1, its number of marks, and 1 for an outcome
abbrev one_size : FiberReport → ℕ
one_size r = 1 + length r.marks + ended r.outcome

abbrev GrowsOne : Fiber → Fiber → Type 0
GrowsOne a b = (fiber_report b ≡ fiber_report a) ⊎ (one_size (fiber_report a) < one_size (fiber_report b))

-- a fiber that has a next move hasn't ended
going : (w : Running) (up : List Mask) (l : Look) (c : Move_case) → case_in w up l ≡ c → (c ≡ Rests → ⊥) → outcome_in w ≡ None
going (Runs t) up l c e h = refl
going (Final m gs) up l c e h = refl
going (Over o) up l c e h = absurd (h (sym e))
going Broken up l c e h = refl

reduced_grows : (g : Fiber) (w : Row Running) (o : Option Outcome) (ms : List Mark) → outcome_of g ≡ None → outcome_in w.becomes ≡ o → w.marks ≡ ms →
    GrowsOne g (reduced g w)
reduced_grows g w None [] none same marks = inl (reports_alike (reduced g w) g (same ∙ sym none) (ap (λ l. g.marks ++ l) marks ∙ append-nil g.marks))
reduced_grows g w (Some o) [] none same marks =
    let long : length (g.marks ++ w.marks) ≡ length g.marks = ap length (ap (λ l. g.marks ++ l) marks ∙ append-nil g.marks) in
    let before : ended (outcome_of g) ≡ 0 = ap ended none in
    let behind : ended (outcome_in w.becomes) ≡ 1 = ap ended same in
    inr (omega arith)
reduced_grows g w o (m ∷ ms) none same marks =
    let long = length-append g.marks w.marks in
    let some : length w.marks ≡ suc (length ms) = ap length marks in
    let before : ended (outcome_of g) ≡ 0 = ap ended none in
    inr (omega arith)

moved_grows : (g : Fiber) (r : Reply) (c : Move_case) → move_case g ≡ c → GrowsOne g (move_in g r c)
moved_grows g r Looks e = inl refl
moved_grows g r Cuts e =
    let none : outcome_of g ≡ None = going g.running (active_of g) g.look Cuts e (λ no. cc) in
    let long = length-append g.marks (mark.Cut ∷ []) in
    let before : ended (outcome_of g) ≡ 0 = ap ended none in
    inr (omega arith)
moved_grows g r Reduces e =
    reduced_grows g (row_of g r) (outcome_in (row_of g r).becomes) (row_of g r).marks (going g.running (active_of g) g.look Reduces e (λ no. cc)) refl refl
moved_grows g r Rests e = inl refl

move_grows : (g : Fiber) (r : Reply) → GrowsOne g (move g r)
move_grows g r = moved_grows g r (move_case g) refl

-- ---- all fibers
abbrev sizes : List FiberReport → ℕ
sizes [] = 0
sizes (r ∷ rs) = one_size r + sizes rs

abbrev pub size : Report → ℕ
size r = sizes r.fibers

abbrev GrowsAll : List Fiber → List Fiber → Type 0
GrowsAll xs ys = (map fiber_report ys ≡ map fiber_report xs) ⊎ (sizes (map fiber_report xs) < sizes (map fiber_report ys))

set_grows : (gs : List Fiber) (f : ℕ) (a b : Fiber) → slice_get gs f ≡ Some a → GrowsOne a b → GrowsAll gs (set gs f b)
set_grows [] f a b e h = absurd (cc)
set_grows (g ∷ gs) zero a b e h =
    let same : g ≡ a = cc in
    elim h [
      | inl stays ↦ inl (ap (λ r. r ∷ map fiber_report gs) (stays ∙ ap fiber_report (sym same)))
      | inr more ↦ let here = ap (λ x. one_size (fiber_report x)) same in inr (omega arith)
    ]
set_grows (g ∷ gs) (suc f) a b e h = elim (set_grows gs f a b e h) [
  | inl stays ↦ inl (ap (λ l. fiber_report g ∷ l) stays)
  | inr more ↦ inr (omega arith)
]

more_grows : (gs : List Fiber) (more : List Fiber) → GrowsAll gs (gs ++ more)
more_grows [] [] = inl refl
more_grows [] (x ∷ more) = inr (omega arith)
more_grows (g ∷ gs) more = elim (more_grows gs more) [
  | inl stays ↦ inl (ap (λ l. fiber_report g ∷ l) stays)
  | inr larger ↦ inr (omega arith)
]

grows_grows : (xs ys zs : List Fiber) → GrowsAll xs ys → GrowsAll ys zs → GrowsAll xs zs
grows_grows xs ys zs (inl a) (inl b) = inl (b ∙ a)
grows_grows xs ys zs (inl a) (inr b) = let s = ap sizes a in inr (omega arith)
grows_grows xs ys zs (inr a) (inl b) = let s = ap sizes b in inr (omega arith)
grows_grows xs ys zs (inr a) (inr b) = inr (omega arith)

-- ---- an entry
module _ (k : Limits) (w : World) (f : ℕ) where
  abbrev Grows : Place → Type 0
  Grows q = GrowsAll w.fibers q.world.fibers

  led : (v : World) (q : Place) → GrowsAll w.fibers v.fibers → placed k (Ok v) ≡ Ok q → Grows q
  led v q h e = let same : record { limits = k; world = v } ≡ q = cc in subst Grows same h

  by_answer : (g : Fiber) (c : Call) (o : Option CellError) (q : Place) → slice_get w.fibers f ≡ Some g → placed k (answered w f g c o) ≡ Ok q → Grows q
  by_answer g c None q at e =
      let r = reply_of w.cells f c in
      led _ q (grows_grows w.fibers (set w.fibers f (move g r)) (set w.fibers f (move g r) ++ born g c r)
      (set_grows w.fibers f g (move g r) at (move_grows g r)) (more_grows (set w.fibers f (move g r)) (born g c r))) e
  by_answer g c (Some d) q at e = absurd (cc)

  by_wish : (g : Fiber) (x : Wish) (q : Place) → slice_get w.fibers f ≡ Some g → placed k (wished k w f g x) ≡ Ok q → Grows q
  by_wish g (Shared c) q at e = by_answer g c (refusal k w.cells f c) q at e
  by_wish g Alone q at e = led _ q (set_grows w.fibers f g (silent_move g) at (move_grows g Done)) e
  by_wish g Nothing q at e = led w q (inl refl) e

  by_fiber : (o : Option Fiber) (q : Place) → slice_get w.fibers f ≡ o → placed k (turned k w f o) ≡ Ok q → Grows q
  by_fiber None q at e = led w q (inl refl) e
  by_fiber (Some g) q at e = by_wish g (wish_of (ask_of g)) q at e

abbrev as_report : List FiberReport → Report
as_report l = record { fibers = l }

pub reports_enter : AreGrowing stepped report_at size
reports_enter p f q e = elim (by_fiber p.limits p.world f (slice_get p.world.fibers f) q refl e) [
  | inl stays ↦ inl (ap as_report stays)
  | inr more ↦ inr more
]
