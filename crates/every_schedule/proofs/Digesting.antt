-- Digests of reports, by the numbers of states.
use Rattle.std.proofs.Common.{◌≡◌, ℕ, List, [], ◌∷◌, map, refl, sym, ap, ◌∙◌}
use Rattle.std.{proofs.lemmas.{List.map-append, List.Sums.fold-append}, specs.{List.{fold, slice_get}, Option.option_to_list}}
use Rattle.fiber_frames.specs.Fiber.{Fiber}
use Rattle.scheduled_core.specs.{Core.fiber_report, declared.report.FiberReport.FiberReport}
use Rattle.every_schedule.specs.{Digests.with_report, Private.{Numbered.picked, Reporting.with_state}}

pub with_states : (fs : List Fiber) (d : ℕ) (ns : List ℕ) → fold (with_state fs) d ns ≡ fold with_report d (map fiber_report (picked fs ns))
with_states fs d [] = refl
with_states fs d (n ∷ ns) =
    let here : List Fiber = option_to_list (slice_get fs n) in
    with_states fs (with_state fs d n) ns
    ∙ sym (fold-append with_report d (map fiber_report here) (map fiber_report (picked fs ns)))
    ∙ ap (λ (l : List FiberReport). fold with_report d l) (sym (map-append fiber_report here (picked fs ns)))
