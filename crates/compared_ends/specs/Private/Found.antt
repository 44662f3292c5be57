-- What two explorations show of the ends that one has and the other hasn't.
use Rattle.std.specs.Prelude.{◌≡◌, true, Some}
use Rattle.std.specs.List.{slice_get}
use Rattle.every_schedule.specs.declared.exploration.Answer.{Answer}
use Rattle.every_schedule.specs.declared.exploration.Exploration.{Exploration}
use Rattle.compared_ends.specs.declared.basis.Basis.{Basis}
use Rattle.compared_ends.specs.declared.comparison.Extra.{Extra}
use Rattle.compared_ends.specs.declared.comparison.Extra.TheVariants as extra
use Rattle.compared_ends.specs.Comparisons.{AreSeenIn, IsSeenIn, IsUndecided}
use Rattle.compared_ends.specs.Views.{viewed}

abbrev pub IsFound : Basis → Exploration → Exploration → Extra → Type 0
IsFound basis one other (extra.Answer i) = (other.complete ≡ true) × (a : Answer) × (slice_get one.answers i ≡ Some a) ×
    (IsSeenIn basis other.answers (viewed basis a.end) → ⊥)
IsFound basis one other extra.Nothing = (one.complete ≡ true) × AreSeenIn basis one.answers other.answers
IsFound basis one other extra.Undecided = IsUndecided basis one other
