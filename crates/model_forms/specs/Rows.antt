-- The forms of a text, side by side and nested, and the tokens that spell them.
use Rattle.std.specs.Prelude.{◌≡◌, ◌+◌, ◌-◌, ℕ, List, [], ◌∷◌, ◌++◌, length, slice_range, Option, Some, None}
use Rattle.model_forms.specs.declared.block.Block.{Block}
use Rattle.model_forms.specs.Lexemes.{opens, closes, word, quoted, Placed, lexemes_at}
use Rattle.model_forms.specs.declared.form.Form.{Form}
use Rattle.model_forms.specs.declared.form.FormKind.TheVariants as kinds

-- A row of forms. A word and a quoted text have the places where they begin and end. A list has the places of both
-- brackets, and the row between them.
pub data Row : Type 0 where
  nothing : Row
  a_word : ℕ → ℕ → Row → Row
  a_text : ℕ → ℕ → Row → Row
  a_list : ℕ → Row → ℕ → Row → Row

-- the tokens that spell a row; the bytes of words and quoted texts are those of `text`
abbrev pub tokens_of : List ℕ → Row → List Placed
tokens_of text nothing = []
tokens_of text (a_word start end r) = record { lexeme = word (slice_range text start end); place = start } ∷ tokens_of text r
tokens_of text (a_text start end r) =
    record { lexeme = quoted (slice_range text (start + 1) (end - 1)); place = start } ∷ tokens_of text r
tokens_of text (a_list opening inner closing r) =
    record { lexeme = opens; place = opening } ∷ (tokens_of text inner ++
    (record { lexeme = closes; place = closing } ∷ tokens_of text r))

-- a row as the code's list of forms: a list has the number of forms inside it, and these forms follow it
abbrev pub flat : Row → List Form
flat nothing = []
flat (a_word start end r) = record { kind = kinds.Word; start = start; end = end; inside = 0 } ∷ flat r
flat (a_text start end r) = record { kind = kinds.Text; start = start; end = end; inside = 0 } ∷ flat r
flat (a_list opening inner closing r) = record {
  kind = kinds.List;
  start = opening;
  end = closing + 1;
  inside = length (flat inner);
} ∷ (flat inner ++ flat r)

-- the row inside the first form of a row
abbrev pub inside_of : Row → Row
inside_of nothing = nothing
inside_of (a_word start end r) = nothing
inside_of (a_text start end r) = nothing
inside_of (a_list opening inner closing r) = inner

-- the row behind the first form of a row
abbrev pub behind_of : Row → Row
behind_of nothing = nothing
behind_of (a_word start end r) = r
behind_of (a_text start end r) = r
behind_of (a_list opening inner closing r) = r

-- the first form of a row
abbrev pub first_of : Row → Option Form
first_of nothing = None
first_of (a_word start end r) = Some (record { kind = kinds.Word; start = start; end = end; inside = 0 })
first_of (a_text start end r) = Some (record { kind = kinds.Text; start = start; end = end; inside = 0 })
first_of (a_list opening inner closing r) = Some (record {
  kind = kinds.List;
  start = opening;
  end = closing + 1;
  inside = length (flat inner);
})

-- the forms of the block are those of the row
abbrev pub IsBlock : List Form → Block → Row → Type 0
IsBlock forms block row = slice_range forms block.first block.end ≡ flat row

-- the row spells the text: its tokens are exactly those of the text
abbrev pub Spells : List ℕ → Row → Type 0
Spells text row = lexemes_at 0 text ≡ tokens_of text row

-- the forms are those of a row that spells the text
pub record AreForms (text : List ℕ) (forms : List Form) : Type 0 where
  pub row : Row
  pub spelled : Spells text row
  pub forms_are : forms ≡ flat row
