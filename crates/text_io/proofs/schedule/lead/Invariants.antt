use Rattle.std.{proofs.Common.{◌≡◌, ◌≤◌, take}, specs.Fmt.decimal}
use Rattle.text_io.proofs.schedule.lead.Given as goal

abbrev pub invariant-loop-at : goal.invariant-loop-at
invariant-loop-at l = record {
  few : l.value ≤ l.most;
  is : take l.at l.bytes ≡ decimal l.value;
}
