use Rattle.std.{proofs.Common.{◌≡◌, ◌*◌, ◌≤◌, drop, length}, specs.Str.IsAscii}
use Rattle.outcome_trace.specs.ReportText.{later_marks_text}
use Rattle.outcome_trace.proofs.report_text.put_later_marks.Given as goal

-- the marks from this one on are written, and the others have room
abbrev pub invariant-loop-left : goal.invariant-loop-left
invariant-loop-left l = record {
  many : l.left ≤ length l.marks;
  room : l.left * 32 ≤ l.start;
  within : l.start ≤ length l.room;
  text : drop l.start l.room ≡ later_marks_text (drop l.left l.marks);
  ascii : IsAscii (later_marks_text (drop l.left l.marks));
}

abbrev pub decreases-loop-left : goal.decreases-loop-left
decreases-loop-left l = l.left
