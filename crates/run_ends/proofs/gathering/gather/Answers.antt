use Rattle.std.proofs.{Common.{List, All, inl, inr, sym, subst}, lemmas.Result.err_from_is_err_and}
use Rattle.fiber_frames.specs.Fiber.{Fiber}
use Rattle.scheduled_core.specs.{declared.report.FiberReport.FiberReport, Stands.IsOfSomeSchedule}
use Rattle.run_ends.{specs.{Private.Gathered.{AreLines, IsLeast}, Gathering.{IsLawful, TellsEach, TellsNoOther}}, proofs.Meeting.{each_home, gathered_report}}
use Rattle.run_ends.proofs.Taking.{missing, tells_each, tells_no_other}
use Rattle.run_ends.proofs.gathering.gather.Goals as goal

pub meet-requires : goal.meet-requires
meet-requires c = each_home c.args.registry.now c.args.code.now c.requires.0 c.args.tasks.items c.requires.1

pub returns-in_err-fibers-clause-lost : goal.returns-in_err-fibers-clause-lost
returns-in_err-fibers-clause-lost c =
    let p = err_from_is_err_and c.from_residual-in_err-fibers.result c.from_residual-in_err-fibers.ensures.1 in
    rw (p.1, p.2) (elim c.in_err-fibers.ensures.lost [
      | inl e ↦ inl e
      | inr l ↦ inr (
        l.0,
        l.1,
        missing c.args.registry.now c.args.tasks.items c.in_ok-met.met c.born-born.new.pass c.in_ok-met.configs.items c.born-born.result l.0
            c.in_ok-met.ensures.home c.in_ok-met.ensures.taken c.born-born.ensures.counted
            (subst (λ (s : List Fiber). IsLeast s c.born-born.result l.0) c.as_slice.ensures.value l.2),
      )
    ])

pub returns-clause-schedule : goal.returns-clause-schedule
returns-clause-schedule c =
    subst (λ (l : List FiberReport). IsOfSomeSchedule c.args.code.now c.args.registry.now.limits record { fibers = l }) (sym c.new.ensures)
    (gathered_report c.args.registry.now c.args.code.now c.requires.0 c.args.tasks.items c.in_ok-met.met c.in_ok-met.configs.items c.born-born.result c.born-born.new.pass
    c.in_ok-fibers.fibers.items (c.in_ok-met.ensures.gathered c.args.code.now c.requires.0 c.requires.1) c.born-born.ensures.counted
    (subst (λ (s : List Fiber). AreLines s c.born-born.result c.in_ok-fibers.fibers.items) c.as_slice.ensures.value c.in_ok-fibers.ensures.lines))

pub returns-clause-lawful : goal.returns-clause-lawful
returns-clause-lawful c = subst (λ (l : List FiberReport). All IsLawful l) (sym c.new.ensures) c.in_ok-fibers.ensures.lawful

pub returns-clause-each : goal.returns-clause-each
returns-clause-each c =
    subst (λ (l : List FiberReport). TellsEach c.args.tasks.items record { fibers = l }) (sym c.new.ensures)
    (tells_each c.args.tasks.items c.in_ok-met.met c.born-born.new.pass c.in_ok-met.configs.items c.born-born.result c.in_ok-fibers.fibers.items
    c.in_ok-met.ensures.taken
    (subst (λ (s : List Fiber). AreLines s c.born-born.result c.in_ok-fibers.fibers.items) c.as_slice.ensures.value c.in_ok-fibers.ensures.lines)
    c.born-born.ensures.counted c.born-born.ensures.lawful c.born-born.ensures.same)

pub returns-clause-only : goal.returns-clause-only
returns-clause-only c =
    subst (λ (l : List FiberReport). TellsNoOther c.args.tasks.items record { fibers = l }) (sym c.new.ensures)
    (tells_no_other c.args.tasks.items c.in_ok-met.met c.born-born.new.pass c.in_ok-met.configs.items c.born-born.result c.in_ok-fibers.fibers.items
    c.in_ok-met.ensures.taken
    (subst (λ (s : List Fiber). AreLines s c.born-born.result c.in_ok-fibers.fibers.items) c.as_slice.ensures.value c.in_ok-fibers.ensures.lines))
