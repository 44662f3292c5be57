use Rattle.std.proofs.{Common.{Ok, Err, length, ◌∙◌, arith}, lemmas.Result.err_from_is_err_and}
use Rattle.scheduled_core.specs.Fitting.{world_of}
use Rattle.sampled_schedules.proofs.Walked.{erred, further, went, within}
use Rattle.sampled_schedules.proofs.walks.walk.Goals as goal

pub returns-in_err-make_row-clause-walked : goal.returns-in_err-make_row-clause-walked
returns-in_err-make_row-clause-walked g c =
    let p = err_from_is_err_and c.from_residual.result c.from_residual.ensures.1 in
    let k = c.args.registry.now.limits in
    let w = world_of c.args.fibers.now.items c.args.registry.now.state in
    let v = world_of c.loop-watcher.fibers.items c.loop-watcher.registry.state in
    let a = c.args.schedule.now.items in
    let b = c.loop-watcher.schedule.items in
    let x = world_of c.make_row.new.fibers.items c.make_row.new.registry.state in
    rw (p.1, p.2)
    (erred c.in_err-make_row.field-0.0 k w x a c.make_row.new.schedule.items c.args.most
    (further (Err c.in_err-make_row.field-0.0) k c.loop-watcher.registry.limits w v x a b c.make_row.new.schedule.items
    (length b) c.min-many.result c.args.most c.loop-watcher.invariant.limits
    (within k w (Ok v) a b c.args.most (length b) c.loop-watcher.invariant.walked (omega arith)) c.in_err-make_row.ensures.walked (omega arith)))

pub loop-watcher-preserved : goal.loop-watcher-preserved
loop-watcher-preserved g c =
    let k = c.args.registry.now.limits in
    let w = world_of c.args.fibers.now.items c.args.registry.now.state in
    let v = world_of c.loop-watcher.fibers.items c.loop-watcher.registry.state in
    let x = world_of c.make_row.new.fibers.items c.make_row.new.registry.state in
    let a = c.args.schedule.now.items in
    let b = c.loop-watcher.schedule.items in
    record {
      limits = c.in_ok-make_row.ensures.limits ∙ c.loop-watcher.invariant.limits;
      fits = c.in_ok-make_row.ensures.fits;
      walked = went c.in_ok-make_row.field-0 k w x a c.make_row.new.schedule.items c.args.most
          (further (Ok c.in_ok-make_row.field-0) k c.loop-watcher.registry.limits w v x a b c.make_row.new.schedule.items
          (length b) c.min-many.result c.args.most c.loop-watcher.invariant.limits
          (within k w (Ok v) a b c.args.most (length b) c.loop-watcher.invariant.walked (omega arith)) c.in_ok-make_row.ensures.walked (omega arith));
      watches = c.lets_draw.ensures.same ∙ c.loop-watcher.invariant.watches;
    }
