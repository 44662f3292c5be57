-- The first fault of a text's brackets and strings. The tokens before it spell open brackets and whole forms.
use Rattle.std.specs.Prelude.{◌≡◌, ℕ, List, [], ◌∷◌, ◌++◌, length}
use Rattle.model_forms.specs.Lexemes.{opens, closes, unclosed, Placed, lexemes_at}
use Rattle.model_forms.specs.Rows.{Row, tokens_of}
use Rattle.model_forms.specs.declared.fault.FormFault.{FormFault}
use Rattle.model_forms.specs.declared.fault.FormFault.TheVariants as faults

-- an open bracket: its place, and the row between it and the open bracket around it
pub record Opening : Type 0 where
  pub before : Row
  pub place : ℕ

-- the tokens up to the innermost open bracket; the openings are listed from the innermost on
abbrev pub tokens_up_to : List ℕ → List Opening → List Placed
tokens_up_to text [] = []
tokens_up_to text (o ∷ os) =
    tokens_up_to text os ++ (tokens_of text o.before ++ (record { lexeme = opens; place = o.place } ∷ []))

-- the brackets `os` are open, `row` is inside the innermost, and the tokens `rest` follow
abbrev pub AreOpen : List ℕ → List Opening → Row → List Placed → Type 0
AreOpen text os row rest = lexemes_at 0 text ≡ (tokens_up_to text os ++ tokens_of text row) ++ rest

-- no bracket is open, and the next token is a closing bracket
pub record IsUnopened (text : List ℕ) (place : ℕ) : Type 0 where
  pub row : Row
  pub rest : List Placed
  pub balanced : AreOpen text [] row (record { lexeme = closes; place = place } ∷ rest)

-- the next token is a quote with no other on its line
pub record IsUnclosedText (text : List ℕ) (place : ℕ) : Type 0 where
  pub open_ones : List Opening
  pub row : Row
  pub rest : List Placed
  pub open_so : AreOpen text open_ones row (record { lexeme = unclosed; place = place } ∷ rest)

-- the text ends with `count` open brackets, the innermost at `place`
pub record IsUnclosed (text : List ℕ) (count place : ℕ) : Type 0 where
  pub innermost : Opening
  pub around : List Opening
  pub row : Row
  pub open_so : AreOpen text (innermost ∷ around) row []
  pub counted : count ≡ length (innermost ∷ around)
  pub placed : place ≡ innermost.place

-- the first fault of a text
abbrev pub IsFaultOf : List ℕ → FormFault → Type 0
IsFaultOf text faults.NoMemory = Unit {0}
IsFaultOf text (faults.Unclosed count place) = IsUnclosed text count place
IsFaultOf text (faults.Unopened place) = IsUnopened text place
IsFaultOf text (faults.UnclosedText place) = IsUnclosedText text place
