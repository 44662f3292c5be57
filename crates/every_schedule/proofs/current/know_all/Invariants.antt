use Rattle.std.proofs.Common.{◌≡◌, length}
use Rattle.every_schedule.specs.Private.Knowing.{AreKnownOf}
use Rattle.every_schedule.proofs.current.know_all.Given as goal

-- what is known of the states so far
abbrev pub invariant-loop-number : goal.invariant-loop-number
invariant-loop-number l = record {
  known : AreKnownOf l.pool.items.items l.known.items;
  many : length l.known.items ≡ l.number;
}
