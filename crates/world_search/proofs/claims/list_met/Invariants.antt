use Rattle.std.proofs.Common.{◌≡◌, true, length}
use Rattle.world_search.specs.Private.Claimed.{AreListedMet, AreLooked}
use Rattle.world_search.proofs.claims.list_met.Given as goal

abbrev pub invariant-loop-number : goal.invariant-loop-number
invariant-loop-number g l = record {
  listed : AreListedMet g.W.Claims.meets (g.W.Worlds.worlds l.worlds) l.nodes l.claims l.met.items;
  looked : AreLooked g.W.Claims.meets (g.W.Worlds.worlds l.worlds) (length l.nodes) l.claims l.number l.met.items;
  keeps : g.V.Watcher.has_stopped l.initial.watcher ≡ true → g.V.Watcher.has_stopped l.watcher ≡ true;
  watches : g.V.Watcher.can_stop l.watcher ≡ g.V.Watcher.can_stop l.initial.watcher;
}
