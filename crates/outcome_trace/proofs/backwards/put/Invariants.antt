use Rattle.std.proofs.Common.{◌≡◌, ◌+◌, ◌≤◌, ◌++◌, drop, length}
use Rattle.outcome_trace.proofs.backwards.put.Given as goal

-- the words from this one on are written
abbrev pub invariant-loop-left : goal.invariant-loop-left
invariant-loop-left l = record {
  many : l.left ≤ length l.words;
  start : l.start + length l.words ≡ l.end + l.left;
  room : length l.room ≡ length l.initial.room;
  text : drop l.start l.room ≡ drop l.left l.words ++ drop l.end l.initial.room;
}

abbrev pub decreases-loop-left : goal.decreases-loop-left
decreases-loop-left l = l.left
