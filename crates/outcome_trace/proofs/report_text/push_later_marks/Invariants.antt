use Rattle.std.proofs.Common.{◌≡◌, ◌++◌, length, string_bytes}
use Rattle.outcome_trace.specs.ReportText.{later_marks_text}
use Rattle.outcome_trace.proofs.report_text.push_later_marks.Given as goal

abbrev pub invariant-loop-left : goal.invariant-loop-left
invariant-loop-left l =
    string_bytes l.text ++ later_marks_text l.left ≡ string_bytes l.initial.text ++ later_marks_text l.marks

abbrev pub decreases-loop-left : goal.decreases-loop-left
decreases-loop-left l = length l.left
