-- Digests of reports that have only the marks that are kept.
use Rattle.std.specs.Prelude.{ℕ, Bool, if◌then◌else◌}
use Rattle.fiber_frames.specs.declared.mark.Mark.{Mark}
use Rattle.every_schedule.specs.Digests.{with_mark}
use Rattle.every_outcome.specs.Places.{keeps_mark}

-- a digest, extended by a mark if it is kept
abbrev pub with_kept_mark : Bool → ℕ → Mark → ℕ
with_kept_mark says d m = if keeps_mark says m then with_mark d m else d
