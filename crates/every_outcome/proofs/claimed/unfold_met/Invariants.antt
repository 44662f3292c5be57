use Rattle.std.proofs.Common.{◌≡◌, ℕ, ◌<◌}
use Rattle.std.specs.Prelude.{Some}
use Rattle.std.specs.List.{All, slice_get}
use Rattle.world_search.specs.declared.claims.Met.{Met}
use Rattle.world_search.specs.Claims.{IsFew, IsFound}
use Rattle.every_outcome.proofs.claimed.unfold_met.Given as goal

-- none of the claims so far was left out
abbrev pub invariant-loop-i : goal.invariant-loop-i
invariant-loop-i l = record {
  numbers : All (IsFew 1000) l.met.items;
  all : (k : ℕ) (m : Met) → k < l.i → slice_get l.found k ≡ Some m → IsFound m.claim l.met.items;
}
