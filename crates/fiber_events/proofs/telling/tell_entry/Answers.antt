use Rattle.std.proofs.{Common.{◌≡◌, ℕ, List, inr, sym, ap, ◌∙◌, subst, refl, arith, length}, lemmas.{Grind.common_steps, Option.{gets, slice_get_past}}}
use Rattle.std.{proofs.lemmas.Result.err_from_is_err_and, specs.{Prelude.{Option, Some}, List.slice_get}}
use Rattle.fiber_frames.specs.{declared.mark.Mark.Mark, Fiber.Fiber}
use Rattle.cell_registry.specs.Plain.{PlainView}
use Rattle.scheduled_core.specs.{Fitting.{Fits, cell_registered, world_of}, Private.Moving.Refuses}
use Rattle.fiber_events.{specs.{declared.event.Deed.Deed, Events.{idles, over, unborn}, Private.Telling.IsForeseen}, proofs.Foreseen.{left_same, refused_here}}
use Rattle.fiber_events.proofs.Foreseen.{stays, told}
use Rattle.fiber_events.proofs.telling.tell_entry.Goals as goal

pub returns-then-place-len-clause-told : goal.returns-then-place-len-clause-told
returns-then-place-len-clause-told c =
    idles (world_of c.args.fibers.now.items c.args.registry.now.state) (unborn (slice_get_past c.args.fibers.now.items c.args.number (omega arith)))

pub foresee-requires : goal.foresee-requires
foresee-requires c =
    let at : slice_get c.args.fibers.now.items c.args.number ≡ Some c.index-fiber.result.now = grind (arith, common_steps, gets) in
    let fits = c.requires.fits.each c.args.number c.index-fiber.result.now at in
    subst (λ (p : PlainView). Fits (cell_registered p.state c.index-fiber.result.now.number) c.index-fiber.result.now) (sym c.requires.same)
    (subst (λ (n : ℕ). Fits (cell_registered c.args.registry.now.state n) c.index-fiber.result.now) (sym fits.number) fits)

pub returns-in_err-foresee-clause-stops : goal.returns-in_err-foresee-clause-stops
returns-in_err-foresee-clause-stops c =
    let at : slice_get c.args.fibers.now.items c.args.number ≡ Some c.index-fiber.result.now = grind (arith, common_steps, gets) in
    let number : c.index-fiber.result.now.number ≡ c.args.number = (c.requires.fits.each c.args.number c.index-fiber.result.now at).number in
    let p = err_from_is_err_and c.from_residual.result c.from_residual.ensures.1 in
    rw (p.1, p.2) (inr (refused_here c.args.registry.now c.args.fibers.now.items c.args.number c.index-fiber.result.now at c.in_err-foresee.field-0.0
    (subst (λ (r : PlainView). Refuses r c.args.number c.index-fiber.result.now c.in_err-foresee.field-0.0) c.requires.same
    (subst (λ (n : ℕ). Refuses c.args.beside.now n c.index-fiber.result.now c.in_err-foresee.field-0.0) number c.in_err-foresee.ensures.refused))))

pub returns-in-None-clause-goes : goal.returns-in-None-clause-goes
returns-in-None-clause-goes c =
    let at : slice_get c.args.fibers.now.items c.args.number ≡ Some c.index-fiber.result.now = grind (arith, common_steps, gets) in
    let foreseen = subst (λ (o : Option Deed). IsForeseen c.args.beside.now c.index-fiber.result.now.number c.index-fiber.result.now
    c.foresee.new.beside o) c.in-None.is c.in_ok-foresee.ensures.deed in
    stays c.args.registry.now c.args.fibers.now.items c.args.number c.index-fiber.result.now at foreseen.0

pub returns-in-None-clause-told : goal.returns-in-None-clause-told
returns-in-None-clause-told c =
    let at : slice_get c.args.fibers.now.items c.args.number ≡ Some c.index-fiber.result.now = grind (arith, common_steps, gets) in
    let foreseen = subst (λ (o : Option Deed). IsForeseen c.args.beside.now c.index-fiber.result.now.number c.index-fiber.result.now
    c.foresee.new.beside o) c.in-None.is c.in_ok-foresee.ensures.deed in
    idles (world_of c.args.fibers.now.items c.args.registry.now.state) (over c.index-fiber.result.now at foreseen.0)

pub returns-in_ok-enter-in-Some-clause-same : goal.returns-in_ok-enter-in-Some-clause-same
returns-in_ok-enter-in-Some-clause-same c =
    let at : slice_get c.args.fibers.now.items c.args.number ≡ Some c.index-fiber.result.now = grind (arith, common_steps, gets) in
    let number : c.index-fiber.result.now.number ≡ c.args.number = (c.requires.fits.each c.args.number c.index-fiber.result.now at).number in
    let beside = subst (λ (o : Option Deed). IsForeseen c.args.beside.now c.index-fiber.result.now.number c.index-fiber.result.now
    c.foresee.new.beside o) c.in-Some.is c.in_ok-foresee.ensures.deed in
    let foreseen = subst (λ (r : PlainView). IsForeseen r c.args.number c.index-fiber.result.now c.foresee.new.beside (Some c.in-Some.deed)) c.requires.same
    (subst (λ (n : ℕ). IsForeseen c.args.beside.now n c.index-fiber.result.now c.foresee.new.beside (Some c.in-Some.deed)) number beside) in
    left_same c.args.registry.now c.args.fibers.now.items c.args.number c.index-fiber.result.now at c.foresee.new.beside c.enter.new.registry
    c.in-Some.deed foreseen
    c.in_ok-enter-in-Some.ensures.limits (world_of c.enter.new.fibers.items c.enter.new.registry.state) refl c.in_ok-enter-in-Some.ensures.goes

pub returns-in_ok-enter-in-Some-clause-told : goal.returns-in_ok-enter-in-Some-clause-told
returns-in_ok-enter-in-Some-clause-told c =
    let at : slice_get c.args.fibers.now.items c.args.number ≡ Some c.index-fiber.result.now = grind (arith, common_steps, gets) in
    let number : c.index-fiber.result.now.number ≡ c.args.number = (c.requires.fits.each c.args.number c.index-fiber.result.now at).number in
    let beside = subst (λ (o : Option Deed). IsForeseen c.args.beside.now c.index-fiber.result.now.number c.index-fiber.result.now
    c.foresee.new.beside o) c.in-Some.is c.in_ok-foresee.ensures.deed in
    let foreseen = subst (λ (r : PlainView). IsForeseen r c.args.number c.index-fiber.result.now c.foresee.new.beside (Some c.in-Some.deed)) c.requires.same
    (subst (λ (n : ℕ). IsForeseen c.args.beside.now n c.index-fiber.result.now c.foresee.new.beside (Some c.in-Some.deed)) number beside) in
    let noted : (h : Fiber) → slice_get c.enter.new.fibers.items c.args.number ≡ Some h →
    c.mark_behind.result ≡ slice_get h.marks (length c.index-fiber.result.now.marks) = λ h there.
    let here : slice_get c.as_slice.result.now c.from-place.result ≡ Some h =
    ap (λ (xs : List Fiber). slice_get xs c.from-place.result) c.as_slice.ensures.value ∙
    ap (λ (i : ℕ). slice_get c.enter.new.fibers.items i) c.from-place.ensures ∙ there in
    c.mark_behind.ensures h here ∙ ap (λ (ms : List Mark). slice_get h.marks (length ms)) c.trace-noted.ensures.marks in
    told c.args.registry.now c.args.fibers.now.items c.args.number c.index-fiber.result.now at c.foresee.new.beside c.in-Some.deed
    c.mark_behind.result c.args.entry
    (world_of c.enter.new.fibers.items c.enter.new.registry.state) foreseen c.in_ok-enter-in-Some.ensures.goes noted
