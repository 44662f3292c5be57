use Rattle.std.proofs.Common.{ℕ, List, ◌++◌, drop}
use Rattle.reasons.specs.Whys.{AreWhyLines}
use Rattle.reasons.proofs.unended.why_lines.Given as goal

-- the lines so far, followed by those of the remaining fibers, are the lines of all fibers
abbrev pub invariant-loop-config : goal.invariant-loop-config
invariant-loop-config l =
    (behind : List ℕ) → AreWhyLines l.last l.registry.state l.config-index (drop l.config-index l.fibers) behind →
    AreWhyLines l.last l.registry.state 0 l.fibers (l.told.items ++ behind)
