use Rattle.std.proofs.Common.{◌≡◌, drop}
use Rattle.model_text.specs.Bodies.{flat_fault}
use Rattle.model_text.proofs.body.flat_fault.Given as goal

abbrev pub invariant-loop-at : goal.invariant-loop-at
invariant-loop-at l = flat_fault l.text (drop l.at l.forms) ≡ flat_fault l.text l.forms
