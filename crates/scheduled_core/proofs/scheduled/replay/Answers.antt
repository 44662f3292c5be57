use Rattle.std.proofs.{Common.{◌≡◌, inl, inr, Ok, Err, sym, ap, ◌∙◌, subst, map}, lemmas.Result.err_from_is_err_and}
use Rattle.derived_ops.specs.{Expansion.code_of, Reading.source_of}
use Rattle.cell_registry.specs.{Cells.{Cells, opening}, Plain.PlainView}
use Rattle.scheduled_core.{specs.{Fitting.{AllFit, world_of}, Core.{fiber_report, reported}}, proofs.Moves.core-opened}
use Rattle.scheduled_core.proofs.scheduled.replay.Goals as goal

pub enter_all-requires : goal.enter_all-requires
enter_all-requires c =
    let opened : opening c.args.limits ≡ c.in_ok-registry.registry.state = ap (λ (r : PlainView). r.state) (sym c.in_ok-registry.ensures.opening) in
    subst (λ (cells : Cells). AllFit (world_of c.in_ok-fibers.fibers.items cells)) opened (c.in_ok-fibers.ensures.fits c.args.limits c.requires.limits)

pub returns-in_err-enter_all-clause-core : goal.returns-in_err-enter_all-clause-core
returns-in_err-enter_all-clause-core c =
    let p = err_from_is_err_and c.from_residual-in_err-enter_all.result c.from_residual-in_err-enter_all.ensures.1 in
    let start = core-opened c.args.limits (code_of (source_of c.args.program.now)) c.in_ok-registry.registry c.in_ok-fibers.fibers.items
    c.args.schedule.now c.in_ok-fibers.ensures.first c.in_ok-registry.ensures.opening in
    rw (p.1, p.2) (elim c.in_err-enter_all.ensures.stops [
      | inl q ↦ inl (ap Err q)
      | inr q ↦ inr (sym (ap reported (sym start ∙ q)))
    ])

pub returns-clause-core : goal.returns-clause-core
returns-clause-core c =
    let start = core-opened c.args.limits (code_of (source_of c.args.program.now)) c.in_ok-registry.registry c.in_ok-fibers.fibers.items
    c.args.schedule.now c.in_ok-fibers.ensures.first c.in_ok-registry.ensures.opening in
    let told : c.in_ok-report.report ≡ record { fibers = map fiber_report c.enter_all.new.fibers.items } =
    c.in_ok-report.ensures.reports in
    inr (ap Ok told ∙ sym (ap reported (sym start ∙ c.in_ok-enter_all.ensures.goes)))
