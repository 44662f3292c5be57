use Rattle.std.{proofs.Common.{◌≡◌, ℕ, ◌<◌, Some, take}, specs.List.slice_get}
use Rattle.world_search.specs.Lists.{IsIn}
use Rattle.fair_ends.proofs.shortening.has_all_of.Given as goal

-- each fiber so far is among the first `many`
abbrev pub invariant-loop-fiber : goal.invariant-loop-fiber
invariant-loop-fiber l = (i f : ℕ) → i < l.fiber-index → slice_get l.cycle i ≡ Some f → IsIn f (take l.many l.cycle)
