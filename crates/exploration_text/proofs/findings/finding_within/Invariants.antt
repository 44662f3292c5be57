use Rattle.std.proofs.Common.{◌≡◌}
use Rattle.exploration_text.proofs.findings.finding_within.Given as goal

-- the watcher can still end as much
abbrev pub invariant-loop-seed : goal.invariant-loop-seed
invariant-loop-seed g l = g.V.Watcher.can_stop l.watcher ≡ g.V.Watcher.can_stop l.initial.watcher
