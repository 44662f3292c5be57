-- The answer to a text in JSON, with its status.
use Rattle.std.specs.Prelude.{◌≡◌, ℕ, List, Ok, Err, Some}
use Rattle.cell_registry.specs.declared.limits.Limits.{Limits}
use Rattle.cell_registry.specs.declared.limits.RunError.{RunError}
use Rattle.effect_term.specs.declared.term.Term.{Term}
use Rattle.effect_term.specs.declared.refusal.TermError.{TermError}
use Rattle.effect_term.specs.Programs.{limit_passed}
use Rattle.term_parse.specs.declared.error.ParseError.{ParseError}
use Rattle.term_parse.specs.Atoms.{atoms_of}
use Rattle.term_parse.specs.Reading.{reading}
use Rattle.text_io.specs.declared.status.Status.{Status}
use Rattle.text_io.specs.declared.status.Status.TheVariants as ends
use Rattle.scheduled_core.specs.declared.report.Report.{Report}
use Rattle.outcome_trace.specs.Answers.{IsProgramAnswer}
use Rattle.outcome_trace.specs.ReplayAnswers.{replayed, report_status}
use Rattle.json_answers.specs.ReportData.{fault_data, line_of_data, report_data}
use Rattle.json_answers.specs.Refusals.{parse_data, program_data, term_data}

-- the refusal of a text that spells no program: by its first fault, or by the limit that its term goes past
pub data IsJsonRefusal : List ℕ → List ℕ → Status → Type 0 where
  no_term : (text : List ℕ) (e : ParseError) → reading text ≡ Err e →
      IsJsonRefusal text (line_of_data (parse_data e)) ends.Refused
  no_program : (text : List ℕ) (t : Term) (e : TermError) → reading text ≡ Ok (atoms_of t) → limit_passed t ≡ Some e →
      IsJsonRefusal text (line_of_data (term_data e)) ends.Refused

-- the counts of a program
abbrev pub IsJsonCounts : Term → List ℕ → Status → Type 0
IsJsonCounts t answer status = (answer ≡ line_of_data (program_data t)) × (status ≡ ends.Succeeded)

-- the answer of `check`: a refusal, or the counts of the program that the text spells
abbrev pub IsJsonCheck : List ℕ → List ℕ → Status → Type 0
IsJsonCheck = IsProgramAnswer IsJsonRefusal IsJsonCounts

-- the result of a program under a schedule and limits: the report or the fault of the core
pub data IsJsonRun (t : Term) (schedule : List ℕ) (limits : Limits) : List ℕ → Status → Type 0 where
  reports : (r : Report) → replayed t limits schedule ≡ Ok r →
      IsJsonRun t schedule limits (line_of_data (report_data r.fibers)) (report_status r.fibers)
  faults : (e : RunError) → replayed t limits schedule ≡ Err e →
      IsJsonRun t schedule limits (line_of_data (fault_data e)) ends.Fault

-- the answer of `replay`: a refusal, or the result of the program that the text spells
abbrev pub IsJsonReplay : List ℕ → Limits → List ℕ → List ℕ → Status → Type 0
IsJsonReplay schedule limits = IsProgramAnswer IsJsonRefusal (λ t. IsJsonRun t schedule limits)
