use Rattle.std.{proofs.Common.{◌≡◌, ℕ, ◌<◌, Some}, specs.List.slice_get}
use Rattle.fair_ends.specs.{declared.rank.Rank.Rank, Private.Ranks.LeadsOn}
use Rattle.fair_ends.proofs.certificate.falls_everywhere.Given as goal

abbrev pub invariant-loop-fiber : goal.invariant-loop-fiber
invariant-loop-fiber g l =
    (f : ℕ) (a : Rank) (w : g.row.W-World.Denot) → f < l.fiber → slice_get l.ranks l.index ≡ Some a → slice_get (g.W.Worlds.worlds l.worlds) l.index ≡ Some w →
    LeadsOn g.W.Resting.entry g.W.Resting.free g.W.Worlds.step g.W.Resting.rests g.W.Worlds.most_born (g.W.Worlds.worlds l.worlds) l.ranks a w f
