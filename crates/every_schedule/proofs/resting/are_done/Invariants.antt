use Rattle.std.{proofs.Common.{◌≡◌, ◌⊎◌, ℕ, ◌<◌, Some}, specs.List.slice_get}
use Rattle.fiber_frames.specs.Fiber.{Fiber}
use Rattle.scheduled_core.specs.Finals.{HasEnded, IsAtRest}
use Rattle.every_schedule.proofs.resting.are_done.Given as goal

-- each fiber so far has ended or rests
abbrev pub invariant-loop-config : goal.invariant-loop-config
invariant-loop-config l =
    (f : ℕ) (g : Fiber) → f < l.config-index → slice_get l.fibers f ≡ Some g → HasEnded g ⊎ IsAtRest l.registry.state f g
