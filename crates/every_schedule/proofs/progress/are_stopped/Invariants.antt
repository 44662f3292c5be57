use Rattle.std.{proofs.Common.{◌≡◌, ℕ, ◌<◌, Some, true}, specs.List.slice_get}
use Rattle.fiber_frames.specs.Fiber.{Fiber}
use Rattle.every_schedule.specs.Private.Stopping.{is_stopped}
use Rattle.every_schedule.proofs.progress.are_stopped.Given as goal

-- each fiber so far has ended or rests
abbrev pub invariant-loop-config : goal.invariant-loop-config
invariant-loop-config l =
    (f : ℕ) (g : Fiber) → f < l.config-index → slice_get l.fibers f ≡ Some g → is_stopped l.registry.state f g ≡ true
