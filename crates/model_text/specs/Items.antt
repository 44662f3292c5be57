-- The items of the forms of a model file, or the first fault.
use Rattle.std.specs.Prelude.{◌&&◌, ℕ, ℤ, pos, negsuc, Bool, true, false, List, [], ◌∷◌, Option, Some, None, Result, Ok, Err, slice_range}
use Rattle.std.specs.Prelude.{if◌then◌else◌}
use Rattle.model_forms.specs.Rows.{Row, nothing, a_word, a_text, a_list, first_of, inside_of, behind_of}
use Rattle.model_forms.specs.declared.form.Form.{Form}
use Rattle.model_forms.specs.declared.form.FormKind.{FormKind}
use Rattle.model_forms.specs.declared.form.FormKind.TheVariants as kinds
use Rattle.term_parse.specs.Lexemes.{number_of}
use Rattle.model_text.specs.Bodies.{row_fault}
use Rattle.model_text.specs.Words.{is_name, is_part, keyword_of}
use Rattle.model_text.specs.declared.fault.ItemFault.{ItemFault}
use Rattle.model_text.specs.declared.fault.ItemFault.TheVariants as faults
use Rattle.model_text.specs.declared.word.Keyword.{Keyword}
use Rattle.model_text.specs.declared.word.Keyword.TheVariants as keywords

-- an item: a constant with its name and number, a definition with its name, parts and statements, bounds, or a model
-- with its name, its text, its row of claims, bounds and `run`, and its statements
pub data ItemTree : Type 0 where
  a_constant : Form → ℤ → ItemTree
  a_definition : Form → Row → Row → ItemTree
  some_defaults : Row → ItemTree
  a_model : Form → Option Form → Row → Row → ItemTree

-- ---- single forms
abbrev pub bytes_of : List ℕ → Form → List ℕ
bytes_of text f = slice_range text f.start f.end

abbrev pub is_name_as : FormKind → List ℕ → Bool
is_name_as kinds.Word bs = is_name bs
is_name_as kinds.Text bs = false
is_name_as kinds.List bs = false

abbrev pub number_as : FormKind → List ℕ → Option ℤ
number_as kinds.Word bs = number_of bs
number_as kinds.Text bs = None
number_as kinds.List bs = None

abbrev pub keyword_as : FormKind → List ℕ → Option Keyword
keyword_as kinds.Word bs = keyword_of bs
keyword_as kinds.Text bs = None
keyword_as kinds.List bs = None

-- the form is a name
abbrev pub is_name_form : List ℕ → Form → Bool
is_name_form text f = is_name_as f.kind (bytes_of text f)

-- the number that a form spells, if it spells one
abbrev pub number_form : List ℕ → Form → Option ℤ
number_form text f = number_as f.kind (bytes_of text f)

abbrev pub keyword_in : List ℕ → Option Form → Option Keyword
keyword_in text None = None
keyword_in text (Some f) = keyword_as f.kind (bytes_of text f)

-- the meaning of the first form of a row, as the head of a list
unfoldable pub head_of : List ℕ → Row → Option Keyword
head_of text row = keyword_in text (first_of row)

abbrev pub is_nothing : Option Form → Bool
is_nothing None = true
is_nothing (Some f) = false

-- ---- parts of definitions
abbrev pub are_names : List ℕ → Row → Bool
are_names text nothing = true
are_names text (a_word start end r) = is_name (slice_range text start end) && are_names text r
are_names text (a_text start end r) = false
are_names text (a_list opening inner closing r) = false

-- the row of a part that is a term: its name, and the names that it takes
abbrev pub is_term_part : List ℕ → Row → Bool
is_term_part text nothing = false
is_term_part text (a_word start end r) = are_names text (a_word start end r)
is_term_part text (a_text start end r) = false
is_term_part text (a_list opening inner closing r) = false

-- the first form, if there is one, is a part
abbrev pub fits_part : List ℕ → Row → Bool
fits_part text nothing = true
fits_part text (a_word start end r) = is_part (slice_range text start end)
fits_part text (a_text start end r) = false
fits_part text (a_list opening inner closing r) = is_term_part text inner

-- the place of the first form that isn't a part
unfoldable pub bad_part : List ℕ → Row → Option ℕ
bad_part text nothing = None
bad_part text (a_word start end r) = if is_part (slice_range text start end) then bad_part text r else Some start
bad_part text (a_text start end r) = Some start
bad_part text (a_list opening inner closing r) = if is_term_part text inner then bad_part text r else Some opening

-- ---- bounds
abbrev pub is_natural : Option ℤ → Bool
is_natural None = false
is_natural (Some (pos n)) = true
is_natural (Some (negsuc n)) = false

abbrev pub is_amount : List ℕ → Option Form → Bool
is_amount text None = false
is_amount text (Some f) = is_natural (number_form text f)

abbrev pub is_bound_word : Option Keyword → Bool
is_bound_word (Some keywords.Bound) = true
is_bound_word (Some keywords.Define) = false
is_bound_word (Some keywords.Defaults) = false
is_bound_word (Some keywords.Model) = false
is_bound_word (Some keywords.Run) = false
is_bound_word (Some keywords.Claim) = false
is_bound_word None = false

-- the word of a bound, a number that isn't negative, and nothing else
unfoldable pub is_bound_list : List ℕ → Row → Bool
is_bound_list text row = is_bound_word (head_of text row) && is_amount text (first_of (behind_of row)) &&
    is_nothing (first_of (behind_of (behind_of row)))

-- the first form, if there is one, is a bound
abbrev pub fits_bound : List ℕ → Row → Bool
fits_bound text nothing = true
fits_bound text (a_word start end r) = false
fits_bound text (a_text start end r) = false
fits_bound text (a_list opening inner closing r) = is_bound_list text inner

-- the place of the first form that isn't a bound
unfoldable pub bad_bound : List ℕ → Row → Option ℕ
bad_bound text nothing = None
bad_bound text (a_word start end r) = Some start
bad_bound text (a_text start end r) = Some start
bad_bound text (a_list opening inner closing r) = if is_bound_list text inner then bad_bound text r else Some opening

-- ---- definitions
abbrev pub constant_with : Form → Form → Option ℤ → Option Form → Result ItemTree ItemFault
constant_with name second None after = Err (faults.NotANumber second.start)
constant_with name second (Some n) None = Ok (a_constant name n)
constant_with name second (Some n) (Some extra) = Err (faults.NotADefinition extra.start)

abbrev pub constant_from : List ℕ → ℕ → Form → Row → Option Form → Result ItemTree ItemFault
constant_from text place name row None = Err (faults.NotADefinition place)
constant_from text place name row (Some second) =
    constant_with name second (number_form text second) (first_of (behind_of row))

-- a constant: its number follows its name, and nothing follows the number
unfoldable pub constant_of : List ℕ → ℕ → Form → Row → Result ItemTree ItemFault
constant_of text place name row =
    if is_name_form text name then constant_from text place name row (first_of row) else Err (faults.NotAName name.start)

abbrev pub definition_with : ℕ → Form → Row → Row → Option ℕ → Option Form → Option ItemFault → Result ItemTree ItemFault
definition_with place name parts body (Some bad) first fault = Err (faults.NotAPart bad)
definition_with place name parts body None None fault = Err (faults.NotADefinition place)
definition_with place name parts body None (Some f) (Some e) = Err e
definition_with place name parts body None (Some f) None = Ok (a_definition name parts body)

abbrev pub definition_from : List ℕ → ℕ → Form → Row → Row → Option Form → Result ItemTree ItemFault
definition_from text place list inside body None = Err (faults.NotAName list.start)
definition_from text place list inside body (Some name) =
    if is_name_form text name
    then definition_with place name (behind_of inside) body (bad_part text (behind_of inside)) (first_of body)
    (row_fault text body)
    else Err (faults.NotAName name.start)

-- a definition: the row `inside` is its name and its parts, and `body` its statements
unfoldable pub definition_of : List ℕ → ℕ → Form → Row → Row → Result ItemTree ItemFault
definition_of text place list inside body = definition_from text place list inside body (first_of inside)

abbrev pub define_as : FormKind → List ℕ → ℕ → Form → Row → Result ItemTree ItemFault
define_as kinds.List text place f row = definition_of text place f (inside_of row) (behind_of row)
define_as kinds.Word text place f row = constant_of text place f (behind_of row)
define_as kinds.Text text place f row = constant_of text place f (behind_of row)

abbrev pub define_from : List ℕ → ℕ → Row → Option Form → Result ItemTree ItemFault
define_from text place row None = Err (faults.NotADefinition place)
define_from text place row (Some f) = define_as f.kind text place f row

-- the item of a list that begins with `define`
unfoldable pub define_of : List ℕ → ℕ → Row → Result ItemTree ItemFault
define_of text place row = define_from text place row (first_of row)

-- ---- models
-- the result of reading a list of a model: go on to the next list, the model's statements, or a fault
pub data ClaimTree : Type 0 where
  more : ClaimTree
  done : Row → ClaimTree
  bad : ItemFault → ClaimTree

abbrev pub run_with : ℕ → Row → Option Form → Option ItemFault → Option Form → ClaimTree
run_with place body None fault after = bad (faults.EmptyRun place)
run_with place body (Some f) (Some e) after = bad e
run_with place body (Some f) None None = done body
run_with place body (Some f) None (Some g) = bad (faults.BehindRun g.start)

abbrev pub claim_with : Option ItemFault → ClaimTree
claim_with (Some e) = bad e
claim_with None = more

abbrev pub claim_as : Option Keyword → List ℕ → ℕ → Row → Row → ClaimTree
claim_as (Some keywords.Run) text place inside rest =
    run_with place (behind_of inside) (first_of (behind_of inside)) (row_fault text (behind_of inside)) (first_of rest)
claim_as (Some keywords.Claim) text place inside rest = claim_with (row_fault text (behind_of inside))
claim_as (Some keywords.Bound) text place inside rest =
    if is_bound_list text inside then more else bad (faults.NotABound place)
claim_as (Some keywords.Define) text place inside rest = bad (faults.NotAClaim place)
claim_as (Some keywords.Defaults) text place inside rest = bad (faults.NotAClaim place)
claim_as (Some keywords.Model) text place inside rest = bad (faults.NotAClaim place)
claim_as None text place inside rest = bad (faults.NotAClaim place)

-- the result of reading the list of a model at `place`, with the forms `inside` it and the forms `rest` behind it
unfoldable pub claim_of : List ℕ → ℕ → Row → Row → ClaimTree
claim_of text place inside rest = claim_as (head_of text inside) text place inside rest

-- the result of reading the first form of a row
abbrev pub claim_first : List ℕ → Row → ClaimTree
claim_first text nothing = more
claim_first text (a_word start end r) = bad (faults.NotAClaim start)
claim_first text (a_text start end r) = bad (faults.NotAClaim start)
claim_first text (a_list opening inner closing r) = claim_of text opening inner r

-- the statements of a model, from the row of its claims, bounds and `run`; `place` is that of the model's name
unfoldable pub run_of : List ℕ → ℕ → Row → Result Row ItemFault
run_of text place nothing = Err (faults.NoRun place)
run_of text place (a_word start end r) = Err (faults.NotAClaim start)
run_of text place (a_text start end r) = Err (faults.NotAClaim start)
run_of text place (a_list opening inner closing r) = elim (claim_of text opening inner r) [
  | more ↦ run_of text place r
  | done body ↦ Ok body
  | bad e ↦ Err e
]

abbrev pub model_with : Form → Option Form → Row → Result Row ItemFault → Result ItemTree ItemFault
model_with name about claims (Ok body) = Ok (a_model name about claims body)
model_with name about claims (Err e) = Err e

abbrev pub model_claims : List ℕ → Form → Option Form → Row → Result ItemTree ItemFault
model_claims text name about claims = model_with name about claims (run_of text name.start claims)

abbrev pub model_as : FormKind → List ℕ → Form → Form → Row → Result ItemTree ItemFault
model_as kinds.Text text name f row = model_claims text name (Some f) (behind_of row)
model_as kinds.Word text name f row = model_claims text name None row
model_as kinds.List text name f row = model_claims text name None row

abbrev pub model_named : List ℕ → Form → Row → Option Form → Result ItemTree ItemFault
model_named text name row None = model_claims text name None row
model_named text name row (Some f) = model_as f.kind text name f row

abbrev pub model_from : List ℕ → ℕ → Row → Option Form → Result ItemTree ItemFault
model_from text place row None = Err (faults.NotAModel place)
model_from text place row (Some name) =
    if is_name_form text name then model_named text name (behind_of row) (first_of (behind_of row))
    else Err (faults.NotAName name.start)

-- the item of a list that begins with `model`
unfoldable pub model_of : List ℕ → ℕ → Row → Result ItemTree ItemFault
model_of text place row = model_from text place row (first_of row)

-- ---- files
abbrev pub defaults_with : Row → Option ℕ → Result ItemTree ItemFault
defaults_with row None = Ok (some_defaults row)
defaults_with row (Some place) = Err (faults.NotABound place)

abbrev pub item_as : Option Keyword → List ℕ → ℕ → Row → Result ItemTree ItemFault
item_as (Some keywords.Define) text place row = define_of text place row
item_as (Some keywords.Defaults) text place row = defaults_with row (bad_bound text row)
item_as (Some keywords.Model) text place row = model_of text place row
item_as (Some keywords.Run) text place row = Err (faults.NotAnItem place)
item_as (Some keywords.Claim) text place row = Err (faults.NotAnItem place)
item_as (Some keywords.Bound) text place row = Err (faults.NotAnItem place)
item_as None text place row = Err (faults.NotAnItem place)

-- the item of the list at `place`, with the forms `inside` it
unfoldable pub item_of : List ℕ → ℕ → Row → Result ItemTree ItemFault
item_of text place inside = item_as (head_of text inside) text place (behind_of inside)

-- the item of the first form of a row
abbrev pub item_first : List ℕ → Row → Result ItemTree ItemFault
item_first text nothing = Err faults.NoMemory
item_first text (a_word start end r) = Err (faults.NotAnItem start)
item_first text (a_text start end r) = Err (faults.NotAnItem start)
item_first text (a_list opening inner closing r) = item_of text opening inner

abbrev pub with_item : Result ItemTree ItemFault → Result (List ItemTree) ItemFault → Result (List ItemTree) ItemFault
with_item (Err e) items = Err e
with_item (Ok i) (Ok is) = Ok (i ∷ is)
with_item (Ok i) (Err e) = Err e

-- the items of a file, or the first fault
unfoldable pub items_of : List ℕ → Row → Result (List ItemTree) ItemFault
items_of text nothing = Ok []
items_of text (a_word start end r) = Err (faults.NotAnItem start)
items_of text (a_text start end r) = Err (faults.NotAnItem start)
items_of text (a_list opening inner closing r) = with_item (item_of text opening inner) (items_of text r)
