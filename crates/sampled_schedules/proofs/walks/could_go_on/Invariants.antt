use Rattle.std.{proofs.Common.{◌≡◌, ◌⊎◌, ℕ, ◌<◌, Some}, specs.List.slice_get}
use Rattle.fiber_frames.specs.Fiber.{Fiber}
use Rattle.scheduled_core.specs.Finals.{HasEnded, IsAtRest}
use Rattle.sampled_schedules.proofs.walks.could_go_on.Given as goal

-- each fiber so far has ended or rests
abbrev pub invariant-loop-fiber : goal.invariant-loop-fiber
invariant-loop-fiber l =
    (f : ℕ) (g : Fiber) → f < l.fiber-index → slice_get l.fibers f ≡ Some g → HasEnded g ⊎ IsAtRest l.registry.state f g
