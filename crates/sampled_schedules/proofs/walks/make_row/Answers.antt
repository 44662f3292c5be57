use Rattle.std.proofs.{Common.{Err, arith}, lemmas.Result.err_from_is_err_and}
use Rattle.scheduled_core.specs.Fitting.{world_of}
use Rattle.sampled_schedules.proofs.Walked.{further}
use Rattle.sampled_schedules.proofs.walks.make_row.Goals as goal

pub returns-in_err-make_entry-2-clause-walked : goal.returns-in_err-make_entry-2-clause-walked
returns-in_err-make_entry-2-clause-walked c =
    let p = err_from_is_err_and c.from_residual-in_err-make_entry-2.result c.from_residual-in_err-make_entry-2.ensures.1 in
    rw (p.1, p.2)
    (further (Err c.in_err-make_entry-2.field-0.0) c.args.registry.now.limits c.loop.registry.limits
    (world_of c.args.fibers.now.items c.args.registry.now.state)
    (world_of c.loop.fibers.items c.loop.registry.state) (world_of c.make_entry-in-loop.new.fibers.items c.make_entry-in-loop.new.registry.state)
    c.args.schedule.now.items c.loop.schedule.items c.make_entry-in-loop.new.schedule.items c.loop.counter 1 c.args.many c.loop.invariant.limits
    c.loop.invariant.walked
    c.in_err-make_entry-2.ensures.walked (let low = c.loop-test.true in omega arith))
