use Rattle.std.proofs.Common.{◌≡◌, ◌≤◌}
use Rattle.std.specs.Prelude.{IfSome}
use Rattle.fiber_tests.proofs.frames.run_to_end.Given as goal

abbrev pub invariant-loop-step : goal.invariant-loop-step
invariant-loop-step l = (l.config.next ≤ l._step) × IfSome l.child (λ child. child.next ≡ 0)
