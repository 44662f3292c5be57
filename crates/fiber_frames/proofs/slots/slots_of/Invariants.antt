use Rattle.fiber_frames.proofs.Prelude.{◌≡◌, ◌+◌, ◌≤◌, ℕ, length, slice_index, NeedsAt}
use Rattle.fiber_frames.proofs.slots.slots_of.Given as goal

-- the last words have their slots
abbrev pub invariant-loop-done : goal.invariant-loop-done
invariant-loop-done l = record {
  many : length l.slots.items ≡ length l.words;
  last : (j : ℕ) → length l.words ≤ j + l.done → NeedsAt l.words j (slice_index l.slots.items j);
}
