use Rattle.fiber_frames.proofs.Prelude.{◌≡◌, map, take, entry_placed}
use Rattle.fiber_frames.proofs.shapes.place_entries.Given as goal

-- the entries so far
abbrev pub invariant-loop-entry : goal.invariant-loop-entry
invariant-loop-entry l = l.placed.items ≡ map (entry_placed l.own l.masks) (take l.entry-index l.env)
