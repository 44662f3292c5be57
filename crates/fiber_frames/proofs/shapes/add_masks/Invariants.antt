use Rattle.fiber_frames.proofs.Prelude.{◌≡◌, ◌++◌, take, numbers_in}
use Rattle.fiber_frames.proofs.shapes.add_masks.Given as goal

-- the masks so far
abbrev pub invariant-loop-frame : goal.invariant-loop-frame
invariant-loop-frame l = l.masks.items ≡ l.initial.masks.items ++ numbers_in (take l.frame-index l.frames)
