-- The first fault of a text from left to right, stated apart from any reading: the tokens before it fit, and the rest
-- begins with a fault.
use Rattle.std.specs.Prelude.{◌≡◌, ℕ, List, [], ◌∷◌, ◌++◌, Ok, Err, Bool, true, false, nat_lt, length}
use Rattle.term_parse.specs.declared.error.ParseError.{ParseError}
use Rattle.term_parse.specs.declared.error.ParseError.TheVariants as errors
use Rattle.term_parse.specs.Lexemes.{Placed, lexemes_at}
use Rattle.term_parse.specs.Reading.{Want, term, ReadStep, want_step, open_of}

-- each token fits what is wanted, and the second list is what is wanted after them
abbrev pub Fit : List Want → List Placed → List Want → Type 0
Fit ws [] after = ws ≡ after
Fit [] (t ∷ ts) after = ⊥
Fit (w ∷ ws) (t ∷ ts) after =
    (s : ReadStep) × (want_step (open_of (w ∷ ws)) w t.lexeme t.place ≡ Ok s) × Fit (s.wants ++ ws) ts after

-- the rest begins with this fault, given what is wanted
abbrev pub Breaks : ℕ → List Want → List Placed → ParseError → Type 0
Breaks end [] [] e = ⊥
Breaks end [] (t ∷ ts) e = e ≡ errors.Trailing t.place
Breaks end (w ∷ ws) [] e = e ≡ errors.End end
Breaks end (w ∷ ws) (t ∷ ts) e = want_step (open_of (w ∷ ws)) w t.lexeme t.place ≡ Err e

pub record IsFirstFault (end : ℕ) (wants : List Want) (tokens : List Placed) (e : ParseError) : Type 0 where
  pub front : List Placed
  pub rest : List Placed
  pub todo : List Want
  pub tokens_are : tokens ≡ front ++ rest
  pub fits : Fit wants front todo
  pub breaks : Breaks end todo rest e

abbrev pub FaultWhere : Bool → List ℕ → ParseError → Type 0
FaultWhere true text e = e ≡ errors.TooLong 65536
FaultWhere false text e = IsFirstFault (length text) (term [] ∷ []) (lexemes_at 0 text) e

-- the first fault of a whole text; TooLong comes before all others
abbrev pub IsFaultOf : List ℕ → ParseError → Type 0
IsFaultOf text e = FaultWhere (nat_lt 65536 (length text)) text e
