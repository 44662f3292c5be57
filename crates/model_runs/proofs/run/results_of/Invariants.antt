use Rattle.std.{proofs.Common.{◌≡◌, ◌≤◌, drop}, specs.List.All}
use Rattle.model_runs.specs.{Deciding.IsDecidedIn, Moments.soughts}
use Rattle.model_runs.proofs.run.results_of.Given as goal

-- the claims so far are decided, and `number` of them are claims at any moment
abbrev pub invariant-loop-claim : goal.invariant-loop-claim
invariant-loop-claim l = record {
  decided : All (IsDecidedIn l.source l.searches l.moments.search) l.results.items;
  counted : drop l.number (soughts l.claims) ≡ soughts (drop l.claim-index l.claims);
  low : l.number ≤ l.claim-index;
}
