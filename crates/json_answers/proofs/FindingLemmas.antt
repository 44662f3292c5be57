-- A finding in JSON.
use Rattle.std.proofs.Common.{◌≡◌, ℕ, Bool, false, List, Result, Ok, Err, refl, ap, ◌∙◌}
use Rattle.cell_registry.specs.declared.limits.RunError.{RunError}
use Rattle.scheduled_core.specs.declared.report.Report.{Report}
use Rattle.exploration_text.specs.declared.findings.Finding.{Finding}
use Rattle.serde_json.specs.{Data.Data, Written.has_float}
use Rattle.json_answers.{specs.{FindingData.{IsFindingData, finding_data}, ReportData.{fault_data, report_data}}, proofs.Plain.{fault_plain, or_plain}}
use Rattle.json_answers.proofs.Plain.{report_plain}

finding_data_plain : (schedule : List ℕ) (drawn last : Bool) (end : Result Report RunError) → has_float (finding_data schedule drawn last end) ≡ false
finding_data_plain schedule drawn last (Ok r) = or_plain (has_float (report_data r.fibers)) false (report_plain r.fibers) refl
finding_data_plain schedule drawn last (Err e) = or_plain (has_float (fault_data e)) false (fault_plain e) refl

pub finding_plain : (f : Finding) (d : Data) → IsFindingData f d → has_float d ≡ false
finding_plain f d h = ap has_float h.data_is ∙ finding_data_plain h.schedule f.drawn f.last f.answer.end
