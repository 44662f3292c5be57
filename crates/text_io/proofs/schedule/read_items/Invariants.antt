use Rattle.std.proofs.Common.{length}
use denote.{Shadow.shadow, Text.Utf8}
use Rattle.text_io.specs.Reading.{HasRead}
use Rattle.text_io.proofs.schedule.read_items.Given as goal

abbrev pub invariant-items : goal.invariant-items
invariant-items l = record {
  read : HasRead l.text l.rest l.entries.items;
  text : shadow (Utf8 l.rest);
}

abbrev pub decreases-items : goal.decreases-items
decreases-items l = length l.rest
