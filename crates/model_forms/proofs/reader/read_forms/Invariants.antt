use Rattle.std.proofs.Common.{length, ◌-◌, ◌≤◌}
use Rattle.model_forms.specs.Reading.{HasRead}
use Rattle.model_forms.proofs.reader.read_forms.Given as goal

abbrev pub invariant-loop-token : goal.invariant-loop-token
invariant-loop-token l = record { within : l.at ≤ length l.text; read : HasRead l.text l.at l.read }

abbrev pub decreases-loop-token : goal.decreases-loop-token
decreases-loop-token l = length l.text - l.at
