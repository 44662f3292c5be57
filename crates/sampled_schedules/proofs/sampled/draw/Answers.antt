use Rattle.std.proofs.Common.{◌≡◌, ℕ, Bool, true, false, List, [], length, Result, Option, Some, IfOk, sym, ap, ap₂, ◌∙◌, subst}
use Rattle.cell_registry.specs.{declared.limits.{Limits.Limits, RunError.RunError}, Plain.PlainView}
use Rattle.scheduled_core.specs.{Core.first_world, Finals.IsFinal, Fitting.world_of}
use Rattle.sampled_schedules.specs.{Sampled.IsDrawing, Private.Walking.{HasUnendedFiber, was_cut, was_walked}}
use Rattle.sampled_schedules.proofs.{Drawings.drawn_of, Walked.{IsWalkOr, ended_whole, walked_whole}}
use Rattle.sampled_schedules.proofs.sampled.draw.Goals as goal

pub returns-in_ok-end-in-Some-clause-drawn : goal.returns-in_ok-end-in-Some-clause-drawn
returns-in_ok-end-in-Some-clause-drawn g c = λ code first.
    let k = c.args.limits in
    let most = c.args.most in
    let w = world_of c.in_ok-fibers.fibers.items c.in_ok-registry.registry.state in
    let v = world_of c.walk-walked.new.fibers.items c.walk-walked.new.registry.state in
    let after : List ℕ = c.walk-walked.new.schedule.items in
    let r : Result Bool RunError = c.in-Some.walked in
    let end = c.in_ok-end-in-Some.end in
    let is : c.walk-walked.result ≡ was_walked r = c.in-Some.ensures.some in
    let opened = c.in_ok-registry.ensures.opening in
    let limits : c.in_ok-registry.registry.limits ≡ k = ap (λ (r : PlainView). r.limits) opened in
    let begun : w ≡ first_world code k = ap₂ world_of (c.in_ok-fibers.ensures ∙ first) (ap (λ (r : PlainView). r.state) opened) in
    let so : IsWalkOr c.walk-walked.result k w [] v after most =
    subst (λ (s : List ℕ). IsWalkOr c.walk-walked.result k w s v after most) c.new-schedule.ensures.items
    (subst (λ (l : Limits). IsWalkOr c.walk-walked.result l w c.new-schedule.result.items v after most) limits c.walk-walked.ensures.walked) in
    let walked : IsWalkOr r k w [] v after most =
    walked_whole r k w v [] after most (subst (λ (x : Result (Option Bool) RunError). IsWalkOr x k w [] v after most) is so) in
    let ended : IfOk r (λ cut. cut ≡ false → IsFinal v) = ended_whole (IsFinal v) false r
    (subst (λ (x : Result (Option Bool) RunError). IfOk x (λ o. o ≡ Some false → IsFinal v)) is c.walk-walked.ensures.ended) in
    let long : IfOk r (λ cut. cut ≡ true → (length after ≡ most) × HasUnendedFiber v.fibers) =
    ended_whole ((length after ≡ most) × HasUnendedFiber v.fibers) true r
    (subst (λ (x : Result (Option Bool) RunError). IfOk x (λ o. o ≡ Some true → (length after ≡ most) × HasUnendedFiber v.fibers)) is
    c.walk-walked.ensures.cut) in
    subst (λ (b : Bool). IsDrawing code k most record { answer = record { schedule = c.new-in-Some.result; end = end }; cut = b })
    (sym c.was_cut-cut.ensures)
    (subst (λ (s : List ℕ). IsDrawing code k most record { answer = record { schedule = s; end = end }; cut = was_cut r }) (sym c.new-in-Some.ensures)
    (drawn_of code k most w v r after end begun walked c.in_ok-end-in-Some.ensures.memory ended long
    (c.in_ok-end-in-Some.ensures.end c.walk-walked.new.registry.state)))
