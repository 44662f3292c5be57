-- The answers to two texts whose programs are compared.
use Rattle.std.specs.Prelude.{◌≡◌, ℕ, Bool, true, false, List, ◌++◌, codes, Ok}
use Rattle.cell_registry.specs.declared.limits.Limits.{Limits}
use Rattle.derived_ops.specs.Expansion.{code_of}
use Rattle.derived_ops.specs.Reading.{source_of}
use Rattle.effect_term.specs.declared.term.Term.{Term}
use Rattle.effect_term.specs.Programs.{IsProgram}
use Rattle.term_parse.specs.Atoms.{atoms_of}
use Rattle.term_parse.specs.Reading.{reading}
use Rattle.text_io.specs.declared.status.Status.{Status}
use Rattle.text_io.specs.declared.status.Status.TheVariants as ends
use Rattle.outcome_trace.specs.Answers.{IsRefusalAnswer}
use Rattle.serde_json.specs.Data.{Data}
use Rattle.json_answers.specs.Refusals.{IsRefusalData}
use Rattle.json_answers.specs.ReportData.{line_of_data}
use Rattle.world_search.specs.declared.answers.Bounds.{Bounds}
use Rattle.compared_ends.specs.declared.basis.Basis.{Basis}
use Rattle.compared_ends.specs.declared.comparison.Comparison.{Comparison}
use Rattle.compared_ends.specs.Comparisons.{IsComparisonOf}
use Rattle.comparison_answers.specs.ComparisonData.{IsComparisonData, refused_data}
use Rattle.comparison_answers.specs.ComparisonText.{IsComparisonText, comparison_status}

-- the answer, in words or as JSON, is that of this comparison
abbrev pub Shows : Bool → Comparison → List ℕ → Type 0
Shows false it answer = IsComparisonText it answer
Shows true it answer = (d : Data) × IsComparisonData it d × (answer ≡ line_of_data d)

-- the answer, in words or as JSON, is the refusal of one of the texts, with the name of its side
abbrev pub Refuses : Bool → List ℕ → List ℕ → List ℕ → Status → Type 0
Refuses false side text answer status = (line : List ℕ) × IsRefusalAnswer text line status ×
    (answer ≡ side ++ (codes ": " ++ line))
Refuses true side text answer status = (d : Data) × IsRefusalData text d ×
    (answer ≡ line_of_data (refused_data side d)) × (status ≡ ends.Refused)

-- the text and the status of a comparison of two programs
pub record IsComparedAnswer (json : Bool) (t u : Term) (limits : Limits) (bounds : Bounds) (basis : Basis)
    (answer : List ℕ) (status : Status) : Type 0
  where
    pub comparison : Comparison
    pub compared : IsComparisonOf basis (code_of (source_of t)) (code_of (source_of u)) limits bounds comparison
    pub shows : Shows json comparison answer
    pub status_is : status ≡ comparison_status comparison

-- the answer to a program and a second text: the refusal of the text, or the comparison of the program with that of the
-- text
pub data IsSecondAnswer (json : Bool) (limits : Limits) (bounds : Bounds) (basis : Basis) (t : Term) (second : List ℕ)
    (answer : List ℕ) (status : Status) : Type 0
  where
    second_refused : Refuses json (codes "second") second answer status →
        IsSecondAnswer json limits bounds basis t second answer status
    compares : (u : Term) → reading second ≡ Ok (atoms_of u) → IsProgram u →
        IsComparedAnswer json t u limits bounds basis answer status →
        IsSecondAnswer json limits bounds basis t second answer status

-- the answer of `compare` to two texts: the refusal of the first refused text, or the comparison of their programs
pub data IsPairAnswer (json : Bool) (limits : Limits) (bounds : Bounds) (basis : Basis) (first second : List ℕ)
    (answer : List ℕ) (status : Status) : Type 0
  where
    first_refused : Refuses json (codes "first") first answer status →
        IsPairAnswer json limits bounds basis first second answer status
    first_read : (t : Term) → reading first ≡ Ok (atoms_of t) → IsProgram t →
        IsSecondAnswer json limits bounds basis t second answer status →
        IsPairAnswer json limits bounds basis first second answer status
