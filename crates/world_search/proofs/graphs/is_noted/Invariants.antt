use Rattle.std.{proofs.Common.{◌≡◌, ◌≢◌, ℕ, ◌<◌}, specs.{Prelude.Some, List.slice_get}}
use Rattle.world_search.specs.declared.graphs.Noted.{Noted}
use Rattle.world_search.proofs.graphs.is_noted.Given as goal

-- no noted fault so far is the fault
abbrev pub invariant-loop-it : goal.invariant-loop-it
invariant-loop-it l = (k : ℕ) (n : Noted) → k < l.it-index → slice_get l.noted k ≡ Some n → n.fault ≢ l.fault
