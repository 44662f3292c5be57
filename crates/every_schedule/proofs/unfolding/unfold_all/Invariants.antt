use Rattle.std.{proofs.Common.{◌≡◌, ℕ, ◌<◌, true, false}, specs.{Prelude.{None, Some}, List.slice_get}}
use Rattle.derived_ops.specs.{Expansion.code_of, Reading.source_of}
use Rattle.world_search.specs.declared.answers.Answer.{Answer as Found}
use Rattle.every_schedule.specs.{Places.first_place, Private.{Numbered.IsWorldOf, Trails.{AreUnfolded, EndApart, EndsAlone, IsKeptIn, IsLeftOut}}}
use Rattle.every_schedule.proofs.Trails.{EndsBefore}
use Rattle.every_schedule.specs.declared.unfolding.Cause.TheVariants as cause
use Rattle.every_schedule.proofs.unfolding.unfold_all.Given as goal

-- the numbers are those of the first world; the answers so far are unfolded; none was left out if the flag is true, and one was if it is false
abbrev pub invariant-loop-i : goal.invariant-loop-i
invariant-loop-i g l = record {
  there : IsWorldOf l.current.fibers l.current.registries (record { registry = l.registry; fibers = l.numbers.items })
      (first_place (code_of (source_of l.program)) l.fn.limits);
  each : AreUnfolded l.at_once l.most (first_place (code_of (source_of l.program)) l.fn.limits) l.found l.answers.items;
  before : EndsBefore l.found l.i l.answers.items;
  apart : EndApart l.found → EndApart l.answers.items;
  left : l.whole ≡ false → (a : Found) × (out : IsLeftOut l.at_once l.most (first_place (code_of (source_of l.program)) l.fn.limits) l.found a) ×
      (out.number < l.i) × (EndApart l.found → EndsAlone a l.answers.items);
  whole : l.whole ≡ true → l.left ≡ None → (i : ℕ) (a : Found) → i < l.i → slice_get l.found i ≡ Some a → IsKeptIn l.answers.items a;
  halted : l.left ≡ Some cause.Time → g.V.Watcher.has_stopped l.watcher ≡ true;
  may : l.left ≡ Some cause.Time → g.V.Watcher.can_stop l.initial.watcher ≡ true;
  room : l.left ≡ Some cause.Room → l.worths.room < 18446744073709551615;
  keeps : g.V.Watcher.has_stopped l.initial.watcher ≡ true → g.V.Watcher.has_stopped l.watcher ≡ true;
  watches : g.V.Watcher.can_stop l.watcher ≡ g.V.Watcher.can_stop l.initial.watcher;
}
