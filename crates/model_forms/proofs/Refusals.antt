-- No forms spell a text with a fault.
use Rattle.std.proofs.Common.{◌≡◌, ◌≢◌, ℕ, suc, zero, List, [], ◌∷◌, ◌++◌, length, refl, ap, sym, ◌∙◌, append_assoc, Option, Some, None}
use Rattle.model_forms.specs.{Lexemes.{Lexeme, opens, closes, word, quoted, unclosed, Placed, lexemes_at}, Rows.{Row, nothing, a_word, a_text, a_list}}
use Rattle.model_forms.specs.{Rows.{tokens_of, Spells}, Faults.{Opening, tokens_up_to, AreOpen, IsFaultOf}, declared.fault.FormFault.FormFault}
use Rattle.model_forms.proofs.RowLaws.{append_none}
use Rattle.model_forms.specs.declared.fault.FormFault.TheVariants as faults

-- the number of open brackets behind a token, if `n` are open before it; `None` if the token is a fault
abbrev depth_next : Lexeme → ℕ → Option ℕ
depth_next opens n = Some (suc n)
depth_next closes zero = None
depth_next closes (suc n) = Some n
depth_next (word bs) n = Some n
depth_next (quoted bs) n = Some n
depth_next unclosed n = None

abbrev depth : ℕ → List Placed → Option ℕ
depth n [] = Some n
depth n (t ∷ ts) = elim (depth_next t.lexeme n) [ Some m ↦ depth m ts | None ↦ None ]

depth_row : (text : List ℕ) (n : ℕ) (row : Row) (rest : List Placed) → depth n (tokens_of text row ++ rest) ≡ depth n rest
depth_row text n nothing rest = refl
depth_row text n (a_word start end r) rest = depth_row text n r rest
depth_row text n (a_text start end r) rest = depth_row text n r rest
depth_row text n (a_list opening inner closing r) rest =
    ap (depth (suc n)) (append_assoc (tokens_of text inner) (record { lexeme = closes; place = closing } ∷ tokens_of text r) rest)
    ∙ depth_row text (suc n) inner (record { lexeme = closes; place = closing } ∷ (tokens_of text r ++ rest))
    ∙ depth_row text n r rest

depth_up_to : (text : List ℕ) (os : List Opening) (rest : List Placed) → depth 0 (tokens_up_to text os ++ rest) ≡ depth (length os) rest
depth_up_to text [] rest = refl
depth_up_to text (o ∷ os) rest =
    let one : List Placed = record { lexeme = opens; place = o.place } ∷ [] in
    ap (depth 0) (append_assoc (tokens_up_to text os) (tokens_of text o.before ++ one) rest)
    ∙ depth_up_to text os ((tokens_of text o.before ++ one) ++ rest)
    ∙ ap (depth (length os)) (append_assoc (tokens_of text o.before) one rest)
    ∙ depth_row text (length os) o.before (one ++ rest)

depth_open : (text : List ℕ) (os : List Opening) (row : Row) (rest : List Placed) → AreOpen text os row rest →
    depth 0 (lexemes_at 0 text) ≡ depth (length os) rest
depth_open text os row rest h =
    ap (depth 0) (h ∙ append_assoc (tokens_up_to text os) (tokens_of text row) rest)
    ∙ depth_up_to text os (tokens_of text row ++ rest)
    ∙ depth_row text (length os) row rest

depth_spelled : (text : List ℕ) (row : Row) → Spells text row → depth 0 (lexemes_at 0 text) ≡ Some 0
depth_spelled text row s = ap (depth 0) (s ∙ sym (append_none (tokens_of text row))) ∙ depth_row text 0 row []

some_none : (n : ℕ) → Some n ≡ None → ⊥
some_none n h = cc

more_than_none : (n : ℕ) → Some 0 ≡ Some (suc n) → ⊥
more_than_none n h = cc

pub refused : (text : List ℕ) (e : FormFault) → IsFaultOf text e → e ≢ faults.NoMemory → (row : Row) → Spells text row → ⊥
refused text faults.NoMemory f n row s = n refl
refused text (faults.Unopened place) f n row s = some_none 0 (sym (depth_spelled text row s) ∙ depth_open text [] f.row _ f.balanced)
refused text (faults.UnclosedText place) f n row s = some_none 0 (sym (depth_spelled text row s) ∙ depth_open text f.open_ones f.row _ f.open_so)
refused text (faults.Unclosed count place) f n row s =
    more_than_none (length f.around) (sym (depth_spelled text row s) ∙ depth_open text (f.innermost ∷ f.around) f.row [] f.open_so)
