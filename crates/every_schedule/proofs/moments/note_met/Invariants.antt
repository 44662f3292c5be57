use Rattle.std.proofs.Common.{take}
use Rattle.derived_ops.specs.Expansion.{code_of}
use Rattle.derived_ops.specs.Reading.{source_of}
use Rattle.every_schedule.specs.Private.Looking.{AddsMet, IsAt}
use Rattle.every_schedule.proofs.Looking.{AreFoundBefore}
use Rattle.every_schedule.proofs.moments.note_met.Given as goal

-- the entries so far have led to this world, and the worlds before it were looked at
abbrev pub invariant-loop-place : goal.invariant-loop-place
invariant-loop-place l = record {
  at : IsAt (code_of (source_of l.program)) l.fn.limits l.world l.seen.items (take l.place l.schedule);
  added : AddsMet (code_of (source_of l.program)) l.fn.limits l.claims l.schedule l.fn.met.items l.met.items;
  found : AreFoundBefore (code_of (source_of l.program)) l.fn.limits l.claims l.schedule l.met.items l.place;
}
