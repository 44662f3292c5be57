use Rattle.std.proofs.Common.{◌≡◌, ◌≤◌, ◌<◌, ◌-◌, length, take, replicate}
use Rattle.text_io.proofs.schedule_items.run_len.Given as goal

abbrev pub invariant-loop-times : goal.invariant-loop-times
invariant-loop-times l = record {
  some : 0 < l.times;
  most : l.times ≤ 100000;
  within : l.times ≤ length l.entries;
  run : take l.times l.entries ≡ replicate l.times l.fiber;
}

abbrev pub decreases-loop-times : goal.decreases-loop-times
decreases-loop-times l = length l.entries - l.times
