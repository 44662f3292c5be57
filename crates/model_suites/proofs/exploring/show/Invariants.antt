use Rattle.std.proofs.Common.{◌≡◌, false}
use Rattle.model_suites.proofs.exploring.show.Given as goal

-- unless a write has failed, the device hasn't
abbrev pub invariant-loop : goal.invariant-loop
invariant-loop g l = l.progress.failed ≡ false → (g.E.TextOut.seen l.err).failed ≡ false
