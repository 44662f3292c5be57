use Rattle.std.proofs.Common.{◌≤◌}
use Rattle.fiber_tests.proofs.frames.moved_on.Given as goal

abbrev pub invariant-loop-step : goal.invariant-loop-step
invariant-loop-step l = l.config.next ≤ l._step
