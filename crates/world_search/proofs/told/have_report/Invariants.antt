use Rattle.std.{proofs.Common.{◌≡◌, ◌≢◌, ℕ, ◌<◌}, specs.{Prelude.Some, List.slice_get}}
use Rattle.world_search.proofs.told.have_report.Given as goal

-- none of the worlds so far has the report of the world
abbrev pub invariant-loop-i : goal.invariant-loop-i
invariant-loop-i g l = (k j : ℕ) (v w : _) → k < l.i → slice_get l.told k ≡ Some j → slice_get (g.W.Worlds.worlds l.worlds) j ≡ Some v →
    slice_get (g.W.Worlds.worlds l.worlds) l.index ≡ Some w → g.W.Worlds.report v ≢ g.W.Worlds.report w
