-- The parts of a fiber's machine, where each mask has its place on the path for its number.
use Rattle.std.specs.Prelude.{ℕ, List, [], ◌∷◌}
use Rattle.fiber_frames.specs.declared.env.EnvEntry.{EnvEntry}
use Rattle.fiber_frames.specs.declared.env.EnvEntry.TheVariants as entry
use Rattle.fiber_frames.specs.declared.frame.Frame.{Frame}
use Rattle.fiber_frames.specs.declared.frame.Frame.TheVariants as frame
use Rattle.fiber_frames.specs.declared.frame.RunStage.{RunStage}
use Rattle.fiber_frames.specs.declared.frame.RunStage.TheVariants as stage
use Rattle.fiber_frames.specs.declared.operand.Mask.{Mask}
use Rattle.fiber_frames.specs.declared.operand.Mask.TheVariants as mask
use Rattle.fiber_frames.specs.Unmarked.{own_place}

-- the masks of frames, the outermost first
abbrev pub numbers_in : List Frame → List ℕ
numbers_in [] = []
numbers_in (frame.Masked m ∷ fs) = m ∷ numbers_in fs
numbers_in (_ ∷ fs) = numbers_in fs

-- those on the path of a fiber that has come so far
abbrev pub path_masks : RunStage → List Frame → List ℕ
path_masks stage.Runs fs = numbers_in fs
path_masks (stage.Final m) fs = m ∷ numbers_in fs
path_masks (stage.Drained m) fs = m ∷ []
path_masks (stage.Over o) fs = []
path_masks stage.Broken fs = []

-- fiber i, whose masks on the path are these
module _ (i : ℕ) (ms : List ℕ) where
  abbrev pub idle_placed : Mask → Mask
  idle_placed (mask.Named s) = mask.Named s
  idle_placed (mask.Pair f m) = mask.Pair i (own_place i ms f m)

  abbrev pub frame_placed : Frame → Frame
  frame_placed (frame.Masked m) = frame.Masked (own_place i ms i m)
  frame_placed (frame.Polled m) = frame.Polled (own_place i ms i m)
  frame_placed (frame.Idle q) = frame.Idle (idle_placed q)
  frame_placed f = f

  abbrev pub entry_placed : EnvEntry → EnvEntry
  entry_placed (entry.Mask f m) = entry.Mask i (own_place i ms f m)
  entry_placed e = e

  abbrev pub stage_placed : RunStage → RunStage
  stage_placed (stage.Final m) = stage.Final (own_place i ms i m)
  stage_placed (stage.Drained m) = stage.Drained (own_place i ms i m)
  stage_placed s = s
