use Rattle.std.proofs.Common.{◌≡◌, drop}
use Rattle.exploration_text.specs.SampleText.{has_finding}
use Rattle.exploration_text.proofs.samples.has_finding.Given as goal

abbrev pub invariant-loop-coming : goal.invariant-loop-coming
invariant-loop-coming l = has_finding l.wants (drop l.coming-index l.comings) ≡ has_finding l.wants l.comings
