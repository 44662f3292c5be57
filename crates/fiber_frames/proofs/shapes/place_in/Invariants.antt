use Rattle.std.proofs.Common.{◌≡◌, ℕ, ◌<◌, get_or}
use Rattle.fiber_frames.proofs.shapes.place_in.Given as goal

-- it is none of those so far
abbrev pub invariant-loop-index : goal.invariant-loop-index
invariant-loop-index l = (k : ℕ) → k < l.index → get_or l.masks k 0 ≡ l.number → ⊥
