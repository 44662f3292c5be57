-- What the reader has read of a text, with lists that are still open.
use Rattle.std.specs.Prelude.{◌≡◌, ◌+◌, ℕ, List, [], ◌∷◌, ◌++◌, length, Bool, true, false, Option, Some, None}
use Rattle.model_forms.specs.Lexemes.{lexemes_at}
use Rattle.model_forms.specs.Rows.{Row, nothing, a_word, a_text, a_list, tokens_of, flat}
use Rattle.model_forms.specs.Faults.{Opening, tokens_up_to}
use Rattle.model_forms.specs.declared.fault.FormFault.{FormFault}
use Rattle.model_forms.specs.declared.fault.FormFault.TheVariants as faults
use Rattle.model_forms.specs.declared.form.Form.{Form}
use Rattle.model_forms.specs.declared.form.FormKind.TheVariants as kinds
use Rattle.model_forms.specs.declared.reader.Read.{Read}

-- the form of a list that is still open
abbrev pub list_opening : ℕ → Form
list_opening place = record { kind = kinds.List; start = place; end = 0; inside = 0 }

-- one row, followed by another
abbrev pub joined : Row → Row → Row
joined nothing r = r
joined (a_word start end q) r = a_word start end (joined q r)
joined (a_text start end q) r = a_text start end (joined q r)
joined (a_list opening inner closing q) r = a_list opening inner closing (joined q r)

-- the forms up to the innermost open list; the openings are listed from the innermost on
abbrev pub flat_up_to : List Opening → List Form
flat_up_to [] = []
flat_up_to (o ∷ os) = flat_up_to os ++ (flat o.before ++ (list_opening o.place ∷ []))

-- the index of each open list in the list of forms
abbrev pub places_of : List Opening → List ℕ
places_of [] = []
places_of (o ∷ os) = places_of os ++ (length (flat_up_to os ++ flat o.before) ∷ [])

-- the lists `os` are open, and `row` is inside the innermost
pub record Shaped (read : Read) (os : List Opening) (row : Row) : Type 0 where
  pub forms : read.forms.items ≡ flat_up_to os ++ flat row
  pub open_ones : read.open_lists.items ≡ places_of os

-- `read` is shaped for some open lists and some row
pub record IsShaped (read : Read) : Type 0 where
  pub os : List Opening
  pub row : Row
  pub shaped : Shaped read os row

-- the text has been read up to the place `at`
pub record HasRead (text : List ℕ) (at : ℕ) (read : Read) : Type 0 where
  pub os : List Opening
  pub row : Row
  pub tokens : lexemes_at 0 text ≡ (tokens_up_to text os ++ tokens_of text row) ++ lexemes_at at text
  pub shaped : Shaped read os row

-- a closing bracket closes the innermost list, if one is open; the list's bytes end at `end`
abbrev pub Closed : List Opening → Row → ℕ → Bool → Read → Type 0
Closed [] row end closed read = closed ≡ false
Closed (o ∷ os) row end closed read = (closed ≡ true) ×
    ((closing : ℕ) → end ≡ closing + 1 → Shaped read os (joined o.before (a_list o.place row closing nothing)))

-- the fault of a text that ends with these lists open
abbrev pub fault_at_end : List Opening → Option FormFault
fault_at_end [] = None
fault_at_end (o ∷ os) = Some (faults.Unclosed (length (o ∷ os)) o.place)
