use Rattle.std.proofs.Common.{◌≡◌, ◌++◌, string_bytes, drop}
use Rattle.outcome_trace.specs.ReportText.{lines_from}
use Rattle.outcome_trace.proofs.report_text.text_of_report.Given as goal

abbrev pub invariant-loop-number : goal.invariant-loop-number
invariant-loop-number l =
    string_bytes l.text ++ lines_from l.number (drop l.number l.fn.report.fibers) ≡ lines_from 0 l.fn.report.fibers
