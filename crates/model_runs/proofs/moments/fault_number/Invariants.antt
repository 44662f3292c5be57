use Rattle.std.proofs.Common.{◌≡◌, drop}
use Rattle.model_runs.specs.Moments.{has_fault}
use Rattle.model_runs.proofs.moments.fault_number.Given as goal

-- no answer so far is a fault
abbrev pub invariant-loop-number : goal.invariant-loop-number
invariant-loop-number l = has_fault (drop l.number l.answers) ≡ has_fault l.answers
