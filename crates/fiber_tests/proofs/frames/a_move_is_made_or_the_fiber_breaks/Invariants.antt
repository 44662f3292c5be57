use Rattle.std.proofs.Common.{◌≤◌}
use Rattle.fiber_tests.proofs.frames.a_move_is_made_or_the_fiber_breaks.Given as goal

abbrev pub invariant-loop-step : goal.invariant-loop-step
invariant-loop-step g l = l.config.next ≤ l._step
