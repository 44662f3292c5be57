use Rattle.std.proofs.Common.{◌≡◌, ◌<◌, ℕ}
use Rattle.std.specs.List.{slice_get}
use Rattle.fiber_frames.specs.SlotNames.{Has}
use Rattle.fiber_frames.proofs.slots.same_at.Given as goal

-- the slots so far hold the same
abbrev pub invariant-loop-slot : goal.invariant-loop-slot
invariant-loop-slot l = (k : ℕ) → k < l.slot → Has l.slots k → slice_get l.one k ≡ slice_get l.other k
