-- The answers to a text.
use Rattle.std.specs.Prelude.{◌≡◌, ◌≢◌, ◌-◌, ◌^◌, ℕ, min, List, [], ◌∷◌, ◌++◌, codes, Ok, Err, Some}
use Rattle.std.specs.Fmt.{decimal}
use Rattle.derived_ops.specs.CoreText.{core_text}
use Rattle.derived_ops.specs.Expansion.{code_of}
use Rattle.derived_ops.specs.Reading.{source_of}
use Rattle.effect_term.specs.declared.term.Term.{Term}
use Rattle.effect_term.specs.declared.refusal.TermError.{TermError}
use Rattle.effect_term.specs.Masks.{masks_of}
use Rattle.effect_term.specs.Programs.{IsPastLimit, IsProgram, limit_passed}
use Rattle.effect_term.specs.Sizes.{size_of, nest_of}
use Rattle.term_parse.specs.declared.error.ParseError.{ParseError}
use Rattle.term_parse.specs.declared.error.ParseError.TheVariants as parse
use Rattle.term_parse.specs.Atoms.{atoms_of}
use Rattle.term_parse.specs.Reading.{reading}
use Rattle.outcome_trace.specs.declared.lines.Refused.{Refused}
use Rattle.outcome_trace.specs.declared.lines.Refused.TheVariants.{Parse, Run}
use Rattle.outcome_trace.specs.declared.lines.Refused.TheVariants as refusals
use Rattle.text_io.specs.declared.status.Status.{Status}
use Rattle.text_io.specs.declared.status.Status.TheVariants as ends
use Rattle.outcome_trace.specs.Lines.{parse_line, term_line}

-- a count as it is printed: at most the greatest number of 64 bits
abbrev pub count_text : ℕ → List ℕ
count_text n = decimal (min n (2 ^ 64 - 1))

-- the size, the nesting and the masks of a program
abbrev pub ok_line : Term → List ℕ
ok_line t =
    codes "ok size " ++ (count_text (size_of t) ++
    (codes " nest " ++ (count_text (nest_of t) ++ (codes " masks " ++ (count_text (masks_of t) ++ 10 ∷ [])))))

-- the text of a program's code, and a line feed
abbrev pub code_line : Term → List ℕ
code_line t = core_text (code_of (source_of t)) ++ 10 ∷ []

-- the answer to a text that has no program, with its status: the text's first fault, or the limit that its term passes
pub data IsRefusalAnswer : List ℕ → List ℕ → Status → Type 0 where
  no_term : (text : List ℕ) (e : ParseError) → reading text ≡ Err e → IsRefusalAnswer text (parse_line e) ends.Refused
  no_program : (text : List ℕ) (t : Term) (e : TermError) → reading text ≡ Ok (atoms_of t) → limit_passed t ≡ Some e →
      IsRefusalAnswer text (term_line e) ends.Refused

-- the answer to a text, with its status: a refusal, or the answer to the program that the text spells
pub data IsProgramAnswer (Refuses : List ℕ → List ℕ → Status → Type 0) (Comes : Term → List ℕ → Status → Type 0) :
    List ℕ → List ℕ → Status → Type 0 where
  refuses : (text answer : List ℕ) (status : Status) → Refuses text answer status →
      IsProgramAnswer Refuses Comes text answer status
  runs : (text answer : List ℕ) (status : Status) (t : Term) → reading text ≡ Ok (atoms_of t) → IsProgram t →
      Comes t answer status → IsProgramAnswer Refuses Comes text answer status

-- the counts of a program
abbrev pub IsCounts : Term → List ℕ → Status → Type 0
IsCounts t answer status = (answer ≡ ok_line t) × (status ≡ ends.Succeeded)

-- the answer of `check`, with its status: a refusal, or the counts of the program that the text spells
abbrev pub IsCheckAnswer : List ℕ → List ℕ → Status → Type 0
IsCheckAnswer = IsProgramAnswer IsRefusalAnswer IsCounts

-- the code of a program
abbrev pub IsCode : Term → List ℕ → Status → Type 0
IsCode t answer status = (answer ≡ code_line t) × (status ≡ ends.Succeeded)

-- the answer of `show`, with its status: a refusal, or the code of the program that the text spells
abbrev pub IsShowAnswer : List ℕ → List ℕ → Status → Type 0
IsShowAnswer = IsProgramAnswer IsRefusalAnswer IsCode

-- why a text is refused, unless memory ran out: its first fault, or a limit that its term passes
abbrev pub IsRefused : List ℕ → Refused → Type 0
IsRefused text (Parse e) = e ≢ parse.NoMemory → reading text ≡ Err e
IsRefused text (refusals.Term e) = (t : Term) × (reading text ≡ Ok (atoms_of t)) × IsPastLimit t e
IsRefused text (Run e) = ⊥

-- some text is refused for this reason
pub record IsOfText (refused : Refused) : Type 0 where
  pub text : List ℕ
  pub is : IsRefused text refused
