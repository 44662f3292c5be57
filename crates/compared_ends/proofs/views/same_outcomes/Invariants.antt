use Rattle.std.proofs.Common.{◌≡◌, map, take}
use Rattle.compared_ends.specs.Views.{outcome_seen}
use Rattle.compared_ends.proofs.views.same_outcomes.Given as goal

-- the fibers so far have ended alike
abbrev pub invariant-loop-index : goal.invariant-loop-index
invariant-loop-index l = map outcome_seen (take l.index l.one) ≡ map outcome_seen (take l.index l.other)
