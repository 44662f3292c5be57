use Rattle.std.{proofs.Common.{◌≢◌, ℕ, ◌<◌, Some}, specs.List.slice_get}
use Rattle.fair_ends.proofs.walking.has.Given as goal

-- none of the entries so far is the fiber's
abbrev pub invariant-loop-it : goal.invariant-loop-it
invariant-loop-it l = (i : ℕ) → i < l.it-index → slice_get l.entries i ≢ Some l.fiber
