use Rattle.world_search.specs.Private.Claimed.{MeetsNone}
use Rattle.world_search.proofs.claims.first_meeting.Given as goal

-- no world so far meets the claim
abbrev pub invariant-loop-world : goal.invariant-loop-world
invariant-loop-world g l = MeetsNone g.W.Claims.meets (g.W.Worlds.worlds l.worlds) l.world l.claim
