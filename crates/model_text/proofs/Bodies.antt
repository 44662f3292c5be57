-- The fault of a row of statements is that of its list of forms.
use Rattle.std.proofs.Common.{◌≡◌, ◌≢◌, ◌<◌, ◌≤◌, ◌+◌, ◌==◌, ◌++◌, ℕ, suc, false, List, [], ◌∷◌, length, drop, get_or, Option, Some, None, refl, ap}
use Rattle.std.{proofs.{Common.{sym, ◌∙◌, append_assoc, add-one, drop-cons, arith}, lemmas.{Bool.ne_eqb, Grind.common_steps}}, specs.List.slice_range}
use Rattle.model_forms.specs.{Rows.{Row, nothing, a_word, a_text, a_list, flat}, declared.form.Form.Form}
use Rattle.model_text.specs.{Bodies.{or_else, number_fault, row_fault, head_fault, first_fault, flat_fault}, declared.fault.ItemFault.ItemFault}
use Rattle.model_forms.specs.declared.form.FormKind.TheVariants as kinds

or_else-assoc : (a b c : Option ItemFault) → or_else (or_else a b) c ≡ or_else a (or_else b c)
or_else-assoc (Some e) b c = refl
or_else-assoc None b c = refl

or_else-none : (a : Option ItemFault) → or_else a None ≡ a
or_else-none (Some e) = refl
or_else-none None = refl

some_inside : (n : ℕ) → (suc n == 0) ≡ false
some_inside n = ne_eqb (suc n) 0 (λ e. omega arith)

list_here : (text : List ℕ) (o c n : ℕ) (x : List Form) →
    first_fault text (record { kind = kinds.List; start = o; end = c + 1; inside = suc n } ∷ x) ≡ head_fault x
list_here text o c n x = let e : (suc n == 0) ≡ false = some_inside n in rw e refl

headed : (text : List ℕ) (o c n : ℕ) (x : List Form) →
    flat_fault text (record { kind = kinds.List; start = o; end = c + 1; inside = suc n } ∷ x) ≡ or_else (head_fault x) (flat_fault text x)
unfolding flat_fault
headed text o c n x = ap (λ z. or_else z (flat_fault text x)) (list_here text o c n x)

flat_behind : (text : List ℕ) (row : Row) (rest : List Form) → flat_fault text (flat row ++ rest) ≡ or_else (row_fault text row) (flat_fault text rest)
unfolding flat_fault
flat_behind text nothing rest = refl
flat_behind text (a_word start end r) rest =
    ap (or_else (number_fault (slice_range text start end) start)) (flat_behind text r rest)
    ∙ sym (or_else-assoc (number_fault (slice_range text start end) start) (row_fault text r) (flat_fault text rest))
flat_behind text (a_text start end r) rest = refl
flat_behind text (a_list opening nothing closing r) rest = refl
flat_behind text (a_list opening (a_text start end q) closing r) rest =
    headed text opening closing (length (flat q)) ((flat (a_text start end q) ++ flat r) ++ rest)
flat_behind text (a_list opening (a_list o i c q) closing r) rest =
    headed text opening closing (length (flat i ++ flat q)) ((flat (a_list o i c q) ++ flat r) ++ rest)
flat_behind text (a_list opening (a_word start end q) closing r) rest =
    headed text opening closing (length (flat q)) ((flat (a_word start end q) ++ flat r) ++ rest)
    ∙ ap (flat_fault text) (append_assoc (flat (a_word start end q)) (flat r) rest)
    ∙ flat_behind text (a_word start end q) (flat r ++ rest)
    ∙ ap (or_else (row_fault text (a_word start end q))) (flat_behind text r rest)
    ∙ sym (or_else-assoc (row_fault text (a_word start end q)) (row_fault text r) (flat_fault text rest))

append_none : (fs : List Form) → fs ++ [] ≡ fs
append_none [] = refl
append_none (f ∷ fs) = ap (λ gs. f ∷ gs) (append_none fs)

pub flat_row : (text : List ℕ) (row : Row) → flat_fault text (flat row) ≡ row_fault text row
unfolding flat_fault
flat_row text row =
    ap (flat_fault text) (sym (append_none (flat row))) ∙ flat_behind text row [] ∙ or_else-none (row_fault text row)

some_form : Form
some_form = record { kind = kinds.Word; start = 0; end = 0; inside = 0 }

drop_next : (fs : List Form) (i : ℕ) → i < length fs → drop i fs ≡ get_or fs i some_form ∷ drop (i + 1) fs
drop_next fs i h = rw add-one (drop-cons fs i some_form h)

pub one_more : (text : List ℕ) (fs : List Form) (i : ℕ) → i < length fs → None ≡ first_fault text (drop i fs) → flat_fault text (drop i fs) ≡ flat_fault text (drop (i + 1) fs)
unfolding flat_fault
one_more text fs i h n =
    ap (flat_fault text) (drop_next fs i h)
    ∙ ap (λ o. or_else o (flat_fault text (drop (i + 1) fs))) (ap (first_fault text) (sym (drop_next fs i h)) ∙ sym n)

pub fault_here : (text : List ℕ) (fs : List Form) (i : ℕ) (e : ItemFault) → i < length fs → Some e ≡ first_fault text (drop i fs) → flat_fault text (drop i fs) ≡ Some e
unfolding flat_fault
fault_here text fs i e h n =
    ap (flat_fault text) (drop_next fs i h)
    ∙ ap (λ o. or_else o (flat_fault text (drop (i + 1) fs))) (ap (first_fault text) (sym (drop_next fs i h)) ∙ sym n)

pub no_fault : (text : List ℕ) (fs : List Form) (i : ℕ) → length fs ≤ i → flat_fault text (drop i fs) ≡ None
unfolding flat_fault
no_fault text fs i h = let d : drop i fs ≡ [] = grind (arith, common_steps) in rw d refl
