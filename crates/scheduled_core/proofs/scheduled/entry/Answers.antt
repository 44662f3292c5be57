use Rattle.std.proofs.{Common.{◌≡◌, ℕ, ◌++◌, inl, inr, Ok, List, [], ◌∷◌, set, sym, ap, ◌∙◌, subst, arith, rules, append-nil}, lemmas.Grind.common_steps}
use Rattle.std.{proofs.lemmas.{Option.gets, Result.err_from_is_err_and}, specs.{Prelude.{Option, Some}, List.slice_get, Option.option_to_list}}
use Rattle.fiber_frames.specs.Fiber.{Fiber}
use Rattle.scheduled_core.{specs.{Fitting.{AllFit, Fits, cell_registered, world_of}, Private.Moving.{Moves, Refuses}}, proofs.Moves.moved_entered}
use Rattle.scheduled_core.proofs.Moves.{refused_entered, unborn_entered}
use Rattle.scheduled_core.proofs.scheduled.entry.Goals as goal

pub make_move-requires : goal.make_move-requires
make_move-requires c =
    let at : slice_get c.args.fibers.now.items c.args.number ≡ Some c.index_mut.result.now = grind (arith, common_steps, gets) in
    let fits = c.requires.each c.args.number c.index_mut.result.now at in
    subst (λ (n : ℕ). Fits (cell_registered c.args.registry.now.state n) c.index_mut.result.now) (sym fits.number) fits

pub returns-in_err-child-clause-stops : goal.returns-in_err-child-clause-stops
returns-in_err-child-clause-stops c =
    let at : slice_get c.args.fibers.now.items c.args.number ≡ Some c.index_mut.result.now = grind (arith, common_steps, gets) in
    let number : c.index_mut.result.now.number ≡ c.args.number = (c.requires.each c.args.number c.index_mut.result.now at).number in
    let p = err_from_is_err_and c.from_residual.result c.from_residual.ensures.1 in
    rw (p.1, p.2) (elim c.in_err-child.ensures.stops [
      | inl q ↦ inl q
      | inr q ↦ inr (refused_entered c.args.registry.now c.args.fibers.now.items c.args.number c.index_mut.result.now c.requires
          c.in_err-child.ensures.lawful at c.in_err-child.field-0.0
          (subst (λ (n : ℕ). Refuses c.args.registry.now n c.index_mut.result.now c.in_err-child.field-0.0) number q))
    ])

pub returns-in_ok-add-in-Some : goal.returns-in_ok-add-in-Some
returns-in_ok-add-in-Some c =
    let at : slice_get c.args.fibers.now.items c.args.number ≡ Some c.index_mut.result.now = grind (arith, common_steps, gets) in
    let number : c.index_mut.result.now.number ≡ c.args.number = (c.requires.each c.args.number c.index_mut.result.now at).number in
    let made = subst (λ (n : ℕ). Moves c.args.registry.now n c.index_mut.result.now c.make_move.new.registry c.make_move.new.config
    (option_to_list c.in_ok-child.field-0)) number c.in_ok-child.ensures.moves in
    let moves = subst (λ (o : Option Fiber). Moves c.args.registry.now c.args.number c.index_mut.result.now c.make_move.new.registry
    c.make_move.new.config (option_to_list o)) c.in-Some.is made in
    let led = moved_entered c.args.registry.now c.args.fibers.now.items c.args.number c.index_mut.result.now c.requires c.in_ok-child.ensures.lawful
    at c.make_move.new.registry c.make_move.new.config (c.in-Some.child ∷ []) moves in
    let here : c.add.new.fibers.items ≡ set c.args.fibers.now.items c.args.number c.make_move.new.config ++ c.in-Some.child ∷ [] =
    c.in_ok-add-in-Some.ensures ∙ ap (λ i. set c.args.fibers.now.items i c.make_move.new.config ++ c.in-Some.child ∷ []) c.from-place.ensures in
    record {
      limits = first_of (search rules, grind (arith, common_steps));
      fits = subst (λ (fibers : List Fiber). AllFit (world_of fibers c.make_move.new.registry.state)) (sym here) led.fits;
      goes = led.goes ∙ ap (λ (fibers : List Fiber). Ok (world_of fibers c.make_move.new.registry.state)) (sym here);
      stops = search rules;
    }

pub returns-in-None : goal.returns-in-None
returns-in-None c =
    let at : slice_get c.args.fibers.now.items c.args.number ≡ Some c.index_mut.result.now = grind (arith, common_steps, gets) in
    let number : c.index_mut.result.now.number ≡ c.args.number = (c.requires.each c.args.number c.index_mut.result.now at).number in
    let made = subst (λ (n : ℕ). Moves c.args.registry.now n c.index_mut.result.now c.make_move.new.registry c.make_move.new.config
    (option_to_list c.in_ok-child.field-0)) number c.in_ok-child.ensures.moves in
    let moves = subst (λ (o : Option Fiber). Moves c.args.registry.now c.args.number c.index_mut.result.now c.make_move.new.registry
    c.make_move.new.config (option_to_list o)) c.in-None.is made in
    let led = moved_entered c.args.registry.now c.args.fibers.now.items c.args.number c.index_mut.result.now c.requires c.in_ok-child.ensures.lawful
    at c.make_move.new.registry c.make_move.new.config [] moves in
    let here : set c.args.fibers.now.items c.from-place.result c.make_move.new.config ≡ set c.args.fibers.now.items c.args.number c.make_move.new.config ++ [] =
    ap (λ i. set c.args.fibers.now.items i c.make_move.new.config) c.from-place.ensures ∙ sym (append-nil _) in
    record {
      limits = first_of (search rules, grind (arith, common_steps));
      fits = subst (λ (fibers : List Fiber). AllFit (world_of fibers c.make_move.new.registry.state)) (sym here) led.fits;
      goes = led.goes ∙ ap (λ (fibers : List Fiber). Ok (world_of fibers c.make_move.new.registry.state)) (sym here);
      stops = search rules;
    }

pub returns-else-place-len-clause-goes : goal.returns-else-place-len-clause-goes
returns-else-place-len-clause-goes c =
    unborn_entered c.args.registry.now.limits (world_of c.args.fibers.now.items c.args.registry.now.state) c.args.number (omega arith)
