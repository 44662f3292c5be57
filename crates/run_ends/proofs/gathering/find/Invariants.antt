use Rattle.std.{proofs.Common.{◌≡◌, ◌≢◌, ℕ, ◌<◌, Some}, specs.List.slice_get}
use Rattle.fiber_frames.specs.Fiber.{Fiber}
use Rattle.run_ends.proofs.gathering.find.Given as goal

-- none of the states so far is the fiber's
abbrev pub invariant-loop-config : goal.invariant-loop-config
invariant-loop-config l = (place : ℕ) (s : Fiber) → place < l.config-index → slice_get l.configs place ≡ Some s → s.number ≢ l.number
