use Rattle.std.{proofs.Common.◌≡◌, specs.List.All}
use Rattle.model_runs.specs.Holding.{IsHeldIn}
use Rattle.model_runs.proofs.held.values_of.Given as goal

-- the values of the refs so far
abbrev pub invariant-loop-word : goal.invariant-loop-word
invariant-loop-word l = record {
  same : l.registry ≡ l.initial.registry;
  held : All (IsHeldIn l.initial.registry.state) l.held.items;
}
