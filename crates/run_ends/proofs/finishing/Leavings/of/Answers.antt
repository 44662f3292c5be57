use Rattle.std.proofs.Common.{List, subst}
use Rattle.fiber_poll.specs.Tasks.{TaskView}
use Rattle.run_ends.{specs.Private.Gathered.AreRests, proofs.Meeting.{each_home, left_by_number}}
use Rattle.run_ends.proofs.finishing.Leavings.of.Goals as goal

pub meet-requires : goal.meet-requires
meet-requires c = each_home c.args.registry.now c.args.code.now c.requires.0 c.args.tasks.items c.requires.1

pub returns-clause-left : goal.returns-clause-left
returns-clause-left c = λ most each. left_by_number c.args.registry.now c.args.code.now most c.args.tasks.items c.in_ok-met.met c.in_ok-met.configs.items
    c.in_ok-rests.rests.items (c.in_ok-met.ensures.gathered c.args.code.now most each)
    (subst (λ (l : List TaskView). AreRests l c.in_ok-rests.rests.items) c.as_slice.ensures.value c.in_ok-rests.ensures.rests)
