use Rattle.std.proofs.Common.{◌-◌}
use Rattle.fiber_poll.proofs.Steps.{here_answers, here_failed, here_follows, here_in_range, here_made, here_may, here_moved, here_no_memory, here_refused}
use Rattle.fiber_poll.proofs.task.FiberTask.step.Goals as goal

pub answer-requires-clause-may : goal.answer-requires-clause-may
answer-requires-clause-may g c = here_may _ _ c.self.view_is c.self.invariant c.args.ask.now c.requires.ask c.requires.asked c.requires.going c.requires.other

pub invariant_of-self : goal.invariant_of-self
invariant_of-self g c =
    here_refused _ _ c.self.view_is c.self.invariant c.args.ask.now c.requires.ask c.requires.asked c.requires.going c.requires.other
    c.answer.new.pass c.in-Err.ensures.lawful c.in-Err.error c.in-Err.ensures.refused

pub returns-in-Err-clause-failed : goal.returns-in-Err-clause-failed
returns-in-Err-clause-failed g c =
    here_failed _ _ c.self.view_is c.self.invariant c.args.ask.now c.requires.ask c.requires.asked c.requires.going c.requires.other
    c.answer.new.pass c.in-Err.ensures.lawful c.in-Err.error c.number-number.result c.fault.result c.fault.ensures c.number-number.ensures
    c.in-Err.ensures.refused

pub resume-resumed-requires-clause-fits : goal.resume-resumed-requires-clause-fits
resume-resumed-requires-clause-fits g c =
    here_answers _ _ c.self.view_is c.self.invariant c.args.ask.now c.requires.ask c.requires.asked c.requires.going c.requires.other
    c.answer.new.pass c.in-Ok.ensures.lawful c.in-Ok.reply c.in-Ok.ensures.made

pub resume-resumed-requires-clause-in_range : goal.resume-resumed-requires-clause-in_range
resume-resumed-requires-clause-in_range g c =
    λ takes. here_in_range _ _ c.self.view_is c.self.invariant c.args.ask.now c.requires.ask c.requires.asked c.requires.going c.requires.other

pub move_end_of-requires-clause-follows : goal.move_end_of-requires-clause-follows
move_end_of-requires-clause-follows g c =
    here_follows _ _ c.self.view_is c.self.invariant c.args.ask.now c.requires.ask c.requires.asked c.requires.going c.requires.other
    c.answer.new.pass c.in-Ok.ensures.lawful c.in-Ok.reply c.in-Ok.ensures.made c.in-Ok-resumed.moved (rw c.in-Ok-resumed.is at c.resume-resumed.ensures.kind)

pub invariant_of-self-in-Ok-resumed : goal.invariant_of-self-in-Ok-resumed
invariant_of-self-in-Ok-resumed g c =
    here_moved _ _ c.self.view_is c.self.invariant c.args.ask.now c.requires.ask c.requires.asked c.requires.going c.requires.other c.answer.new.pass
    c.in-Ok.ensures.lawful c.in-Ok.reply c.in-Ok.ensures.made c.resume-resumed.new.self (c.self.inside.moves - 1)
    (rw c.in-Ok-resumed.is at c.resume-resumed.ensures.state)

pub returns-in-Ok-resumed-clause-made : goal.returns-in-Ok-resumed-clause-made
returns-in-Ok-resumed-clause-made g c =
    here_made _ _ c.self.view_is c.self.invariant c.args.ask.now c.requires.ask c.requires.asked c.requires.going c.requires.other c.answer.new.pass
    c.in-Ok.ensures.lawful c.in-Ok.reply c.in-Ok.ensures.made c.resume-resumed.new.self c.in-Ok-resumed.moved c.move_end_of.result
    c.number-number.result c.requires.left
    (rw c.in-Ok-resumed.is at c.resume-resumed.ensures.state) (rw c.in-Ok-resumed.is at c.resume-resumed.ensures.kind) c.number-number.ensures
    (c.move_end_of.ensures.event c.number-number.result c.in-Ok.reply c.wakes-woke.ensures.event) c.move_end_of.ensures.tells

pub returns-clause-failed : goal.returns-clause-failed
returns-clause-failed g c =
    here_no_memory _ _ c.self.view_is c.self.invariant c.args.ask.now c.requires.ask c.requires.asked c.requires.going c.requires.other
    c.answer.new.pass c.in-Ok.ensures.lawful c.in-Ok.reply c.in-Ok.ensures.made c.resume-resumed.new.self
    (rw c.in-Err-resumed.is at c.resume-resumed.ensures.lost)
