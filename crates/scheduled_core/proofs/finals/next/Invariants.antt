use Rattle.std.{proofs.Common.{◌≡◌, ◌⊎◌, ℕ, ◌<◌, ◌≤◌, get_or, None, Some}, specs.List.slice_get}
use Rattle.fiber_frames.specs.Fiber.{Fiber}
use Rattle.scheduled_core.specs.{Finals.{HasEnded, IsAtRest}, Private.Settling.IsUnended}
use Rattle.scheduled_core.proofs.finals.next.Given as goal

-- where nobody was found, each fiber so far has ended or rests; who was found hasn't ended, and no other that can
-- go on has more moves left
abbrev pub invariant-loop-config : goal.invariant-loop-config
invariant-loop-config l = record {
  none : l.best ≡ None → (f : ℕ) (g : Fiber) → f < l.config-index → slice_get l.fibers f ≡ Some g → HasEnded g ⊎ IsAtRest l.registry.state f g;
  some : (f : ℕ) → l.best ≡ Some f → IsUnended l.fibers f;
  most : (o : ℕ) → l.best ≡ Some o → (f : ℕ) (g : Fiber) → f < l.config-index → slice_get l.fibers f ≡ Some g →
      (HasEnded g ⊎ IsAtRest l.registry.state f g) ⊎ (get_or l.rests f 0 ≤ get_or l.rests o 0);
}
