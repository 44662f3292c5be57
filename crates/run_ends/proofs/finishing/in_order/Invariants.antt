use Rattle.std.{proofs.Common.{◌≡◌, ℕ, Some}, specs.List.slice_get}
use Rattle.fiber_frames.specs.Fiber.{Fiber}
use Rattle.run_ends.specs.Private.Gathered.{AreInOrder}
use Rattle.run_ends.proofs.finishing.in_order.Given as goal

-- what is left is of these states, and those so far are in order
abbrev pub invariant-loop-number : goal.invariant-loop-number
invariant-loop-number l = record {
  still : (i : ℕ) (s : Fiber) → slice_get l.configs.items i ≡ Some s → slice_get l.fn.configs.items i ≡ Some s;
  order : AreInOrder l.fn.configs.items l.number l.fibers.items;
}
