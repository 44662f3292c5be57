-- Answers to programs that workers run.
use Rattle.std.proofs.Common.{◌≡◌, All, Result, Ok, Err, IfOk}
use Rattle.cell_registry.specs.declared.limits.RunError.{RunError}
use Rattle.derived_ops.specs.Expansion.{code_of}
use Rattle.derived_ops.specs.Reading.{source_of}
use Rattle.effect_term.specs.declared.term.Term.{Term}
use Rattle.scheduled_core.specs.declared.report.Report.{Report}
use Rattle.text_io.specs.declared.status.Status.TheVariants.{Fault}
use Rattle.outcome_trace.specs.declared.text_order.Answer.{Answer}
use Rattle.json_answers.specs.ReportData.{fault_data, line_of_data, report_data}
use Rattle.outcome_trace.specs.Lines.{run_line}
use Rattle.outcome_trace.specs.ReplayAnswers.{report_status}
use Rattle.outcome_trace.specs.ReportText.{text_of_fibers}
use Rattle.scheduled_core.specs.Spending.{IsSpentReport}
use Rattle.steal_pool.specs.declared.options.Options.{Options}
use Rattle.run_ends.specs.Ends.{IsRunFault}
use Rattle.run_ends.specs.Gathering.{IsLawful}
use Rattle.ready_queues.specs.Faults.{IsFaultWithin}
use Rattle.steal_pool.specs.Runs.{limits_of}
use Rattle.command_line.specs.Workers.{IsJsonWorkersAnswer, IsWorkersAnswer, faults, reports, value_of_fault, values}

pub report_answers : {E : Type 0} (t : Term) (options : Options) (r : Report) (a : Result Answer E) →
    IsSpentReport (code_of (source_of t)) (limits_of options) options.moves r → All IsLawful r.fibers → IfOk a (λ a. a.text.items ≡ text_of_fibers r.fibers) →
    IfOk a (λ a. a.status ≡ report_status r.fibers) → IfOk a (λ a. IsWorkersAnswer t options a.text.items a.status)
report_answers t options r (Ok a) some lawful line status = rw (line, status) (reports r some lawful)
report_answers t options r (Err x) some lawful line status = tt

pub fault_answers : {E : Type 0} (t : Term) (options : Options) (f : RunError) (a : Result Answer E) → IsFaultWithin (limits_of options) f →
    IsRunFault (code_of (source_of t)) (limits_of options) f →
    IfOk a (λ a. a.text.items ≡ run_line f) → IfOk a (λ a. a.status ≡ Fault) → IfOk a (λ a. IsWorkersAnswer t options a.text.items a.status)
fault_answers t options f (Ok a) within of_run line status = rw (line, status) (faults f within of_run)
fault_answers t options f (Err x) within of_run line status = tt

pub value_answers : {E : Type 0} (t : Term) (options : Options) (r : Report) (a : Result Answer E) →
    IsSpentReport (code_of (source_of t)) (limits_of options) options.moves r → All IsLawful r.fibers →
    IfOk a (λ a. a.text.items ≡ line_of_data (report_data r.fibers)) → IfOk a (λ a. a.status ≡ report_status r.fibers) →
    IfOk a (λ a. IsJsonWorkersAnswer t options a.text.items a.status)
value_answers t options r (Ok a) some lawful line status = rw (line, status) (values r some lawful)
value_answers t options r (Err x) some lawful line status = tt

pub fault_value_answers : {E : Type 0} (t : Term) (options : Options) (f : RunError) (a : Result Answer E) → IsFaultWithin (limits_of options) f →
    IsRunFault (code_of (source_of t)) (limits_of options) f →
    IfOk a (λ a. a.text.items ≡ line_of_data (fault_data f)) → IfOk a (λ a. a.status ≡ Fault) →
    IfOk a (λ a. IsJsonWorkersAnswer t options a.text.items a.status)
fault_value_answers t options f (Ok a) within of_run line status = rw (line, status) (value_of_fault f within of_run)
fault_value_answers t options f (Err x) within of_run line status = tt
