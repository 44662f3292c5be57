use Rattle.run_ends.specs.Private.Gathered.{AreRestsBelow}
use Rattle.run_ends.proofs.finishing.rests.Given as goal

-- those so far stand at their numbers
abbrev pub invariant-loop-task : goal.invariant-loop-task
invariant-loop-task l = AreRestsBelow l.tasks l.task-index l.rests.items
