use Rattle.std.proofs.Common.{◌≤◌}
use Rattle.example_tests.proofs.programs.a_fiber_is_moved_by_hand.Given as goal

abbrev pub invariant-loop-move : goal.invariant-loop-move
invariant-loop-move g l = l.fiber.next ≤ l._move
