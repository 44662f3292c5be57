use Rattle.std.proofs.Common.{◌≤◌}
use Rattle.fiber_tests.proofs.frames.copies_are_one_with_their_fiber_until_it_moves.Given as goal

abbrev pub invariant-loop-step : goal.invariant-loop-step
invariant-loop-step g l = l.config.next ≤ l._step
