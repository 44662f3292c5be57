use Rattle.std.proofs.{Common.{◌≡◌, inl, inr, get_or, Ok, Err, refl, sym, ap, ◌∙◌, subst}, lemmas.List.{Folds.fold_stuck, Sums.fold_more}}
use Rattle.std.proofs.lemmas.Result.{err_from_is_err_and}
use Rattle.cell_registry.specs.declared.limits.Limits.{Limits}
use Rattle.scheduled_core.specs.{Fitting.world_of, Core.entered}
use Rattle.scheduled_core.proofs.scheduled.enter_all.Goals as goal

pub returns-in_err-entry-clause-stops : goal.returns-in_err-entry-clause-stops
returns-in_err-entry-clause-stops c =
    let p = err_from_is_err_and c.from_residual.result c.from_residual.ensures.1 in
    let known = c.loop-number.invariant in
    let k = c.args.registry.now.limits in
    let i = c.loop-number.number-index in
    let number = get_or c.args.schedule.now i 0 in
    rw (p.1, p.2) (elim c.in_err-entry.ensures.stops [
      | inl q ↦ inl q
      | inr q ↦ inr (sym (fold_stuck (entered k) (Err c.in_err-entry.field-0.0) (λ f. refl)
          (Ok (world_of c.args.fibers.now.items c.args.registry.now.state)) c.args.schedule.now i 0 c.loop-number-test.true
          (ap (λ x. entered k x number) known.goes
          ∙ subst (λ (l : Limits). entered l (Ok (world_of c.loop-number.fibers.items c.loop-number.registry.state)) number ≡ Err
          c.in_err-entry.field-0.0) known.limits q)))
    ])

pub loop-number-preserved : goal.loop-number-preserved
loop-number-preserved c =
    let known = c.loop-number.invariant in
    let told = c.in_ok-entry.ensures in
    let k = c.args.registry.now.limits in
    let i = c.loop-number.number-index in
    let number = get_or c.args.schedule.now i 0 in
    record {
      limits = told.limits ∙ known.limits;
      fits = told.fits;
      goes = fold_more (entered k) (Ok (world_of c.args.fibers.now.items c.args.registry.now.state)) c.args.schedule.now i 0 c.loop-number-test.true
          ∙ ap (λ x. entered k x number) known.goes
          ∙ subst (λ (l : Limits). entered l (Ok (world_of c.loop-number.fibers.items c.loop-number.registry.state)) number ≡ Ok
          (world_of c.entry.new.fibers.items c.entry.new.registry.state)) known.limits told.goes;
    }
