use Rattle.steal_pool.proofs.Named.{result_child, result_kept, result_named}
use Rattle.steal_pool.proofs.worker_seat.WorkerSeat.turn.Goals as goal

pub returns-clause-named : goal.returns-clause-named
returns-clause-named g c =
    result_named c.args.self.now.named c.args.task.now c.turn_noted-answer.new.self c.turn_noted-answer.result c.turn_noted-answer.ensures.stays
    c.requires.named

pub returns-clause-child : goal.returns-clause-child
returns-clause-child g c =
    result_child c.args.self.now.named c.args.task.now c.turn_noted-answer.new.self c.turn_noted-answer.result c.turn_noted-answer.ensures.stays
    c.requires.named

pub returns-clause-kept : goal.returns-clause-kept
returns-clause-kept g c =
    result_kept c.args.self.now.named c.args.task.now c.turn_noted-answer.new.self c.turn_noted-answer.result c.turn_noted-answer.ensures.stays
    c.requires.named
