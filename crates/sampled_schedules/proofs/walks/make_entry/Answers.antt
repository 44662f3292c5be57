use Rattle.scheduled_core.specs.Fitting.{world_of}
use Rattle.sampled_schedules.proofs.Walked.{entry_walked}
use Rattle.sampled_schedules.proofs.walks.make_entry.Goals as goal

pub returns-clause-walked : goal.returns-clause-walked
returns-clause-walked c =
    entry_walked c.args.registry.now.limits (world_of c.args.fibers.now.items c.args.registry.now.state)
    (world_of c.enter.new.fibers.items c.enter.new.registry.state) c.enter.result
    c.args.schedule.now.items c.note.new.schedule.items c.args.number c.in_ok-note.ensures c.requires.number c.enter.ensures.goes c.enter.ensures.stops
