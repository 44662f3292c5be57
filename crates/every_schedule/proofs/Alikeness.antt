-- The reports of worlds, by the numbers of their states.
use Rattle.std.proofs.{Common.{◌≡◌, ◌≢◌, inl, inr, ℕ, suc, List, [], ◌∷◌, length, map, Some, refl, sym, ap, ◌∙◌, arith}, lemmas.List.length-map}
use Rattle.std.{proofs.lemmas.Option.same_Some, specs.List.slice_get}
use Rattle.fiber_frames.specs.Fiber.{Fiber}
use Rattle.scheduled_core.specs.{Core.fiber_report, declared.report.{FiberReport.FiberReport, Report.Report}}
use Rattle.every_schedule.{specs.Private.{Numbered.AreAt, Reporting.{AreAlike, AreOther}}, proofs.Numbered.map_get}

module _ (fs : List Fiber) where
  pub alike_reports : (ms ns : List ℕ) (gs hs : List Fiber) → AreAt fs ms gs → AreAt fs ns hs → AreAlike fs ms ns → map fiber_report gs ≡ map fiber_report hs
  alike_reports [] [] [] [] a b h = refl
  alike_reports [] ns (g ∷ gs) hs a b h = absurd (let x = a.many in omega arith)
  alike_reports (m ∷ ms) ns [] hs a b h = absurd (let x = a.many in omega arith)
  alike_reports ms [] gs (x ∷ hs) a b h = absurd (let y = b.many in omega arith)
  alike_reports ms (n ∷ ns) gs [] a b h = absurd (let y = b.many in omega arith)
  alike_reports [] (n ∷ ns) gs hs a b h = absurd (let y = h.many in omega arith)
  alike_reports (m ∷ ms) [] gs hs a b h = absurd (let y = h.many in omega arith)
  alike_reports (m ∷ ms) (n ∷ ns) (g ∷ gs) (x ∷ hs) a b h =
      let one = a.each 0 m refl in
      let two = b.each 0 n refl in
      let first : slice_get fs m ≡ Some g = one.2 ∙ ap Some (sym (same_Some g one.0 one.1)) in
      let second : slice_get fs n ≡ Some x = two.2 ∙ ap Some (sym (same_Some x two.0 two.1)) in
      let same : fiber_report g ≡ fiber_report x = h.each 0 m n refl refl g x first second in
      let rest = alike_reports ms ns gs hs
      record { many = let y = a.many in omega arith; each = λ i j e. a.each (suc i) j e }
      record { many = let y = b.many in omega arith; each = λ i j e. b.each (suc i) j e }
      record { many = let y = h.many in omega arith; each = λ i j l e d. h.each (suc i) j l e d } in
      ap (λ y. y ∷ map fiber_report gs) same ∙ ap (λ l. fiber_report x ∷ l) rest

  pub other_reports : (ms ns : List ℕ) (gs hs : List Fiber) → AreAt fs ms gs → AreAt fs ns hs → AreOther fs ms ns → map fiber_report gs ≢ map fiber_report hs
  other_reports ms ns gs hs a b (inl apart) = λ same.
      let long = ap length same in
      let one = length-map gs fiber_report in
      let two = length-map hs fiber_report in
      let x = a.many in
      let y = b.many in
      apart (omega arith)
  other_reports ms ns gs hs a b (inr h) = λ same.
      let one = a.each h.0 h.1 h.3 in
      let two = b.each h.0 h.2 h.4 in
      let left : slice_get (map fiber_report gs) h.0 ≡ Some (fiber_report one.0) = map_get fiber_report gs h.0 one.0 one.1 in
      let right : slice_get (map fiber_report hs) h.0 ≡ Some (fiber_report two.0) = map_get fiber_report hs h.0 two.0 two.1 in
      h.5 one.0 two.0 one.2 two.2 (same_Some _ _ (sym left ∙ ap (λ l. slice_get l h.0) same ∙ right))

-- the report of these fibers
abbrev pub told : List FiberReport → Report
told l = record { fibers = l }

pub same_lists : (gs hs : List Fiber) → map fiber_report gs ≡ map fiber_report hs → told (map fiber_report gs) ≡ told (map fiber_report hs)
same_lists gs hs h = ap told h
