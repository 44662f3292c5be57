use Rattle.fiber_frames.proofs.Prelude.{◌≡◌, map, take, frame_placed}
use Rattle.fiber_frames.proofs.shapes.place_frames.Given as goal

-- the frames so far
abbrev pub invariant-loop-frame : goal.invariant-loop-frame
invariant-loop-frame l = l.placed.items ≡ map (frame_placed l.own l.masks) (take l.frame-index l.frames)
