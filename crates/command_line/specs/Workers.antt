-- The answer to a text whose program workers run.
use Rattle.std.specs.Prelude.{ℕ, All, List}
use Rattle.cell_registry.specs.declared.limits.RunError.{RunError}
use Rattle.derived_ops.specs.Expansion.{code_of}
use Rattle.derived_ops.specs.Reading.{source_of}
use Rattle.effect_term.specs.declared.term.Term.{Term}
use Rattle.scheduled_core.specs.declared.report.Report.{Report}
use Rattle.text_io.specs.declared.status.Status.{Status}
use Rattle.text_io.specs.declared.status.Status.TheVariants.{Fault}
use Rattle.json_answers.specs.ReportData.{fault_data, line_of_data, report_data}
use Rattle.outcome_trace.specs.Answers.{IsProgramAnswer, IsRefusalAnswer}
use Rattle.outcome_trace.specs.Lines.{run_line}
use Rattle.outcome_trace.specs.ReplayAnswers.{report_status}
use Rattle.outcome_trace.specs.ReportText.{text_of_fibers}
use Rattle.scheduled_core.specs.Spending.{IsSpentReport}
use Rattle.steal_pool.specs.declared.options.Options.{Options}
use Rattle.run_ends.specs.Ends.{IsRunFault}
use Rattle.run_ends.specs.Gathering.{IsLawful}
use Rattle.ready_queues.specs.Faults.{IsFaultWithin}
use Rattle.steal_pool.specs.Runs.{limits_of}

-- The answer to a program on workers, with its status. The first case is the report of a schedule within the moves of
-- the options: each fiber that hasn't ended rests at a wait that nothing serves, or has used its moves, and the marks
-- are lawful; the status is that of fiber 0's end. The second case is a fault, with the limit that it names: a call
-- that the core refuses under some schedule, or a fault of memory, of a missing task, or of threads.
pub data IsWorkersAnswer (t : Term) (options : Options) : List ℕ → Status → Type 0 where
  reports : (r : Report) → IsSpentReport (code_of (source_of t)) (limits_of options) options.moves r → All IsLawful r.fibers →
      IsWorkersAnswer t options (text_of_fibers r.fibers) (report_status r.fibers)
  faults : (e : RunError) → IsFaultWithin (limits_of options) e → IsRunFault (code_of (source_of t)) (limits_of options) e →
      IsWorkersAnswer t options (run_line e) Fault

-- the same as JSON
pub data IsJsonWorkersAnswer (t : Term) (options : Options) : List ℕ → Status → Type 0 where
  values : (r : Report) → IsSpentReport (code_of (source_of t)) (limits_of options) options.moves r → All IsLawful r.fibers →
      IsJsonWorkersAnswer t options (line_of_data (report_data r.fibers)) (report_status r.fibers)
  value_of_fault : (e : RunError) → IsFaultWithin (limits_of options) e → IsRunFault (code_of (source_of t)) (limits_of options) e →
      IsJsonWorkersAnswer t options (line_of_data (fault_data e)) Fault

-- the answer of `run` to a text
abbrev pub IsRunTextAnswer : Options → List ℕ → List ℕ → Status → Type 0
IsRunTextAnswer options = IsProgramAnswer IsRefusalAnswer (λ t. IsWorkersAnswer t options)
