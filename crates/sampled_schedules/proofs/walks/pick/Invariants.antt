use Rattle.std.{proofs.Common.{◌≡◌, ◌⊎◌, ◌<◌, ◌≤◌, ℕ, None, Some}, specs.List.slice_get}
use Rattle.fiber_frames.specs.Fiber.{Fiber}
use Rattle.scheduled_core.specs.Finals.{HasEnded, IsAtRest}
use Rattle.sampled_schedules.proofs.walks.pick.Given as goal

-- if none was picked, each fiber so far has ended or rests
abbrev pub invariant-loop-index : goal.invariant-loop-index
invariant-loop-index l = record {
  none : l.picked ≡ None → (f : ℕ) (g : Fiber) → f < l.index → slice_get l.fibers f ≡ Some g → HasEnded g ⊎ IsAtRest l.registry.state f g;
  number : (f : ℕ) → l.picked ≡ Some f → f < 1000;
  able : l.able ≤ l.index;
}
