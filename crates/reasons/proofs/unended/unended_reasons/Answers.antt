use Rattle.std.proofs.{Common.{◌≡◌, Ok, sym, ap, ◌∙◌, subst}, lemmas.Result.IfOk-weaker}
use Rattle.derived_ops.specs.{Expansion.code_of, Reading.source_of}
use Rattle.cell_registry.specs.{Cells.{Cells, opening}, Plain.PlainView}
use Rattle.scheduled_core.{specs.Fitting.{AllFit, world_of}, proofs.Moves.core-opened}
use Rattle.reasons.{specs.Whys.unended, proofs.Settled.faulty}
use Rattle.reasons.proofs.unended.unended_reasons.Goals as goal

pub enter_all-requires : goal.enter_all-requires
enter_all-requires c =
    let opened : opening c.args.limits ≡ c.in_ok-registry.registry.state = ap (λ (r : PlainView). r.state) (sym c.in_ok-registry.ensures.opening) in
    subst (λ (cells : Cells). AllFit (world_of c.in_ok-fibers.fibers.items cells)) opened (c.in_ok-fibers.ensures.fits c.args.limits c.requires)

pub returns-in-Ok : goal.returns-in-Ok
returns-in-Ok c =
    let start = core-opened c.args.limits (code_of (source_of c.args.program.now)) c.in_ok-registry.registry c.in_ok-fibers.fibers.items
    c.args.schedule.now c.in_ok-fibers.ensures.first c.in_ok-registry.ensures.opening in
    let s = c.enter_all.new.registry.state in
    let w = world_of c.as_slice.result.now s in
    let leads = sym start ∙ c.in-Ok.ensures.goes ∙ ap (λ fibers. Ok (world_of fibers s)) (sym c.as_slice.ensures.value) in
    IfOk-weaker c.why_lines.result _ _ (λ told h. unended w h.0 told.items leads h.1 h.2) c.why_lines.ensures

pub returns : goal.returns
returns c =
    let start = core-opened c.args.limits (code_of (source_of c.args.program.now)) c.in_ok-registry.registry c.in_ok-fibers.fibers.items
    c.args.schedule.now c.in_ok-fibers.ensures.first c.in_ok-registry.ensures.opening in
    faulty (code_of (source_of c.args.program.now)) c.args.limits c.args.schedule.now c.in-Err.error _ start c.in-Err.ensures.stops
    c.fault_reasons.result c.fault_reasons.ensures.none c.fault_reasons.ensures.memory
