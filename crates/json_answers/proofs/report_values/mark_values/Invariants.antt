use Rattle.std.proofs.Common.{◌≡◌, drop}
use Rattle.serde_json.specs.View.{items_view}
use Rattle.json_answers.{specs.ReportData.marks_items, proofs.Behind.items_behind}
use Rattle.json_answers.proofs.report_values.mark_values.Given as goal

-- followed by the values of the marks that are left, the values so far are those of all marks
abbrev pub invariant-loop-mark : goal.invariant-loop-mark
invariant-loop-mark l =
    items_behind (items_view l.values.items) (marks_items (drop l.mark-index l.marks)) ≡ marks_items l.marks
