use Rattle.std.proofs.Common.{◌≡◌}
use Rattle.exploration_text.proofs.findings.drawn_finding.Given as goal

-- the watcher can still end as much
abbrev pub invariant-loop-length : goal.invariant-loop-length
invariant-loop-length g l = g.V.Watcher.can_stop l.watcher ≡ g.V.Watcher.can_stop l.initial.watcher
