use Rattle.std.{proofs.Common.{◌≡◌, ℕ, ◌<◌, Some}, specs.List.slice_get}
use Rattle.fair_ends.specs.{declared.rank.Rank.Rank, Private.Ranks.IsRanked}
use Rattle.fair_ends.proofs.certificate.are_ranked.Given as goal

abbrev pub invariant-loop-index : goal.invariant-loop-index
invariant-loop-index g l =
    (i : ℕ) (a : Rank) (w : g.row.W-World.Denot) → i < l.index → slice_get l.ranks i ≡ Some a → slice_get (g.W.Worlds.worlds l.worlds) i ≡ Some w →
    IsRanked g.W.Resting.entry g.W.Resting.free g.W.Worlds.step g.W.Resting.rests g.W.Worlds.most_born (g.W.Worlds.worlds l.worlds) l.ranks a w
