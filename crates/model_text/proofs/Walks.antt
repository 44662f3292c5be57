-- The forms of a block, one after another.
use Rattle.std.proofs.Common.{◌≡◌, ◌&&◌, ◌+◌, ◌++◌, ℕ, true, false, List, [], ◌∷◌, Some, None, Result, Ok, Err, refl, ap, sym, ◌∙◌, subst}
use Rattle.std.proofs.Common.{append_assoc}
use Rattle.model_forms.specs.{Rows.{Row, nothing, a_word, a_text, a_list, IsBlock, first_of, behind_of}, declared.block.Block.Block}
use Rattle.model_forms.specs.declared.form.Form.{Form}
use Rattle.model_text.specs.Items.{fits_part, bad_part, fits_bound, bad_bound, claim_first, claim_of}
use Rattle.model_text.specs.{Items.{ClaimTree, more, done, bad, run_of, ItemTree, item_first, item_of, items_of, with_item}, Standing.Stands}
use Rattle.model_text.specs.{Standing.{AllStand, AreItems, Reads, ReadsBlock, ReadsClaim}, declared.{fault.ItemFault.ItemFault, item.Item.Item}}
use Rattle.model_forms.specs.declared.form.FormKind.TheVariants as kinds
use Rattle.model_text.specs.declared.fault.ItemFault.TheVariants as faults
use Rattle.model_text.specs.declared.model.ClaimStep.TheVariants as steps

-- `f` is the same for a row and for the row that is left of it
pub record Rest (A : Type 0) (f : Row → A) (forms : List Form) (rest : Block) (row : Row) : Type 0 where
  pub left : Row
  pub block : IsBlock forms rest left
  pub same : f row ≡ f left

-- parts
pub part_goes : (text : List ℕ) (row : Row) → fits_part text row ≡ true → bad_part text row ≡ bad_part text (behind_of row)
unfolding bad_part
part_goes text nothing h = refl
part_goes text (a_word start end r) h = rw h refl
part_goes text (a_text start end r) h = cc
part_goes text (a_list opening inner closing r) h = rw h refl

pub part_stops : (text : List ℕ) (row : Row) (f : Form) → Some f ≡ first_of row → fits_part text row ≡ false → bad_part text row ≡ Some f.start
unfolding bad_part
part_stops text nothing f e h = cc
part_stops text (a_word start end r) f e h = let s : f.start ≡ start = cc in rw h (ap Some (sym s))
part_stops text (a_text start end r) f e h = let s : f.start ≡ start = cc in ap Some (sym s)
part_stops text (a_list opening inner closing r) f e h = let s : f.start ≡ opening = cc in rw h (ap Some (sym s))

pub part_ends : (text : List ℕ) (row : Row) → None ≡ first_of row → bad_part text row ≡ None
unfolding bad_part
part_ends text nothing e = refl
part_ends text (a_word start end r) e = cc
part_ends text (a_text start end r) e = cc
part_ends text (a_list opening inner closing r) e = cc

-- bounds
pub bound_goes : (text : List ℕ) (row : Row) → fits_bound text row ≡ true → bad_bound text row ≡ bad_bound text (behind_of row)
unfolding bad_bound
bound_goes text nothing h = refl
bound_goes text (a_word start end r) h = cc
bound_goes text (a_text start end r) h = cc
bound_goes text (a_list opening inner closing r) h = rw h refl

pub bound_stops : (text : List ℕ) (row : Row) (f : Form) → Some f ≡ first_of row → fits_bound text row ≡ false → bad_bound text row ≡ Some f.start
unfolding bad_bound
bound_stops text nothing f e h = cc
bound_stops text (a_word start end r) f e h = let s : f.start ≡ start = cc in ap Some (sym s)
bound_stops text (a_text start end r) f e h = let s : f.start ≡ start = cc in ap Some (sym s)
bound_stops text (a_list opening inner closing r) f e h = let s : f.start ≡ opening = cc in rw h (ap Some (sym s))

pub bound_ends : (text : List ℕ) (row : Row) → None ≡ first_of row → bad_bound text row ≡ None
unfolding bad_bound
bound_ends text nothing e = refl
bound_ends text (a_word start end r) e = cc
bound_ends text (a_text start end r) e = cc
bound_ends text (a_list opening inner closing r) e = cc

-- claims
claim_more : (forms : List Form) (t : ClaimTree) → ReadsClaim forms steps.More t → t ≡ more
claim_more forms more h = refl
claim_more forms (done row) h = absurd h
claim_more forms (bad e) h = absurd h

run_more : (text : List ℕ) (place : ℕ) (r : Row) (t : ClaimTree) → t ≡ more →
    (elim t as (λ _. Result Row ItemFault) [ more ↦ run_of text place r | done body ↦ Ok body | bad e ↦ Err e ]) ≡ run_of text place r
run_more text place r more h = refl
run_more text place r (done row) h = cc
run_more text place r (bad e) h = cc

pub run_goes : (text : List ℕ) (place : ℕ) (forms : List Form) (row : Row) → ReadsClaim forms steps.More (claim_first text row) →
    run_of text place row ≡ run_of text place (behind_of row)
unfolding run_of
run_goes text place forms nothing h = refl
run_goes text place forms (a_word start end r) h = absurd h
run_goes text place forms (a_text start end r) h = absurd h
run_goes text place forms (a_list opening inner closing r) h =
    run_more text place r (claim_of text opening inner r) (claim_more forms (claim_of text opening inner r) h)

done_reads : (text : List ℕ) (place : ℕ) (forms : List Form) (r : Row) (b : Block) (t : ClaimTree) → ReadsClaim forms (steps.Done b) t →
    ReadsBlock forms (Ok b) (elim t [ more ↦ run_of text place r | done body ↦ Ok body | bad e ↦ Err e ])
done_reads text place forms r b more h = absurd h
done_reads text place forms r b (done row) h = h
done_reads text place forms r b (bad e) h = absurd h

bad_reads : (text : List ℕ) (place : ℕ) (forms : List Form) (r : Row) (f : ItemFault) (t : ClaimTree) → ReadsClaim forms (steps.Bad f) t →
    ReadsBlock forms (Err f) (elim t [ more ↦ run_of text place r | done body ↦ Ok body | bad e ↦ Err e ])
bad_reads text place forms r f more h = absurd h
bad_reads text place forms r f (done row) h = absurd h
bad_reads text place forms r f (bad e) h = h

pub run_done : (text : List ℕ) (place : ℕ) (forms : List Form) (row : Row) (b : Block) → ReadsClaim forms (steps.Done b) (claim_first text row) →
    ReadsBlock forms (Ok b) (run_of text place row)
unfolding run_of
run_done text place forms nothing b h = absurd h
run_done text place forms (a_word start end r) b h = absurd h
run_done text place forms (a_text start end r) b h = absurd h
run_done text place forms (a_list opening inner closing r) b h = done_reads text place forms r b (claim_of text opening inner r) h

pub run_bad : (text : List ℕ) (place : ℕ) (forms : List Form) (row : Row) (f : ItemFault) → ReadsClaim forms (steps.Bad f) (claim_first text row) →
    ReadsBlock forms (Err f) (run_of text place row)
unfolding run_of
run_bad text place forms nothing f h = absurd h
run_bad text place forms (a_word start end r) f h = h
run_bad text place forms (a_text start end r) f h = h
run_bad text place forms (a_list opening inner closing r) f h = bad_reads text place forms r f (claim_of text opening inner r) h

pub run_ends : (text : List ℕ) (place : ℕ) (row : Row) → None ≡ first_of row → run_of text place row ≡ Err (faults.NoRun place)
unfolding run_of
run_ends text place nothing e = refl
run_ends text place (a_word start end r) e = cc
run_ends text place (a_text start end r) e = cc
run_ends text place (a_list opening inner closing r) e = cc

-- items
abbrev pub behind_items : List ItemTree → Result (List ItemTree) ItemFault → Result (List ItemTree) ItemFault
behind_items ts (Ok us) = Ok (ts ++ us)
behind_items ts (Err e) = Err e

-- the items `is` have been read, and `left` is the row behind them
pub record Items (text : List ℕ) (forms : List Form) (rest : Block) (is : List Item) (row : Row) : Type 0 where
  pub trees : List ItemTree
  pub left : Row
  pub block : IsBlock forms rest left
  pub stand : AllStand forms is trees
  pub same : items_of text row ≡ behind_items trees (items_of text left)

behind_nothing : (r : Result (List ItemTree) ItemFault) → r ≡ behind_items [] r
behind_nothing (Ok us) = refl
behind_nothing (Err e) = refl

pub items_begin : (text : List ℕ) (forms : List Form) (block : Block) (row : Row) → IsBlock forms block row → Items text forms block [] row
items_begin text forms block row b = record { trees = []; left = row; block = b; stand = tt; same = behind_nothing (items_of text row) }

stand_more : (forms : List Form) (is : List Item) (ts : List ItemTree) (i : Item) (t : ItemTree) → AllStand forms is ts → Stands forms i t →
    AllStand forms (is ++ (i ∷ [])) (ts ++ (t ∷ []))
stand_more forms [] [] i t h s = (s, tt)
stand_more forms (j ∷ is) (u ∷ us) i t h s = (h.0, stand_more forms is us i t h.1 s)
stand_more forms [] (u ∷ us) i t h s = absurd h
stand_more forms (j ∷ is) [] i t h s = absurd h

behind_one : (ts : List ItemTree) (t : ItemTree) (r : Result (List ItemTree) ItemFault) → behind_items ts (with_item (Ok t) r) ≡ behind_items (ts ++ (t ∷ [])) r
behind_one ts t (Ok us) = ap Ok (sym (append_assoc ts (t ∷ []) us))
behind_one ts t (Err e) = refl

-- the item that was read, and the rest of the file
pub record ItemIs (text : List ℕ) (forms : List Form) (i : Item) (row : Row) : Type 0 where
  pub tree : ItemTree
  pub stands : Stands forms i tree
  pub same : items_of text row ≡ with_item (Ok tree) (items_of text (behind_of row))

item_so : (text : List ℕ) (forms : List Form) (i : Item) (place : ℕ) (inner r : Row) (t : Result ItemTree ItemFault) → Reads forms (Ok i) t →
    item_of text place inner ≡ t → (tree : ItemTree) × Stands forms i tree × (item_of text place inner ≡ Ok tree)
item_so text forms i place inner r (Ok t) h e = (t, h, e)
item_so text forms i place inner r (Err f) h e = absurd h

item_is : (text : List ℕ) (forms : List Form) (i : Item) (row : Row) → Reads forms (Ok i) (item_first text row) → ItemIs text forms i row
unfolding items_of
item_is text forms i nothing h = absurd h
item_is text forms i (a_word start end r) h = absurd h
item_is text forms i (a_text start end r) h = absurd h
item_is text forms i (a_list opening inner closing r) h =
    let so = item_so text forms i opening inner r (item_of text opening inner) h refl in
    record { tree = so.0; stands = so.1; same = ap (λ x. with_item x (items_of text r)) so.2 }

pub items_go : (text : List ℕ) (forms : List Form) (rest next : Block) (is : List Item) (i : Item) (row : Row) → (s : Items text forms rest is row) →
    Reads forms (Ok i) (item_first text s.left) → IsBlock forms next (behind_of s.left) → Items text forms next (is ++ (i ∷ [])) row
items_go text forms rest next is i row s h b =
    let it = item_is text forms i s.left h in
    record {
      trees = s.trees ++ (it.tree ∷ []);
      left = behind_of s.left;
      block = b;
      stand = stand_more forms is s.trees i it.tree s.stand it.stands;
      same = s.same ∙ ap (behind_items s.trees) it.same ∙ behind_one s.trees it.tree (items_of text (behind_of s.left));
    }

fault_is : (text : List ℕ) (forms : List Form) (e : ItemFault) (place : ℕ) (inner r : Row) (t : Result ItemTree ItemFault) → Reads forms (Err e) t →
    item_of text place inner ≡ t → item_of text place inner ≡ Err e
fault_is text forms e place inner r (Ok t) h s = absurd h
fault_is text forms e place inner r (Err f) h s = s ∙ ap Err (sym h)

none_first : (f : Form) → Some f ≡ None → ⊥
none_first f h = cc

fault_here : (text : List ℕ) (forms : List Form) (e : ItemFault) (f : Form) (row : Row) → Some f ≡ first_of row → Reads forms (Err e) (item_first text row) →
    items_of text row ≡ Err e
unfolding items_of
fault_here text forms e f nothing s h = absurd (none_first f s)
fault_here text forms e f (a_word start end r) s h = ap Err (sym h)
fault_here text forms e f (a_text start end r) s h = ap Err (sym h)
fault_here text forms e f (a_list opening inner closing r) s h =
    ap (λ x. with_item x (items_of text r)) (fault_is text forms e opening inner r (item_of text opening inner) h refl)

pub items_fail : (text : List ℕ) (forms : List Form) (rest : Block) (is : List Item) (e : ItemFault) (f : Form) (row : Row) → (s : Items text forms rest is row) →
    Some f ≡ first_of s.left → Reads forms (Err e) (item_first text s.left) → items_of text row ≡ Err e
items_fail text forms rest is e f row s n h = s.same ∙ ap (behind_items s.trees) (fault_here text forms e f s.left n h)

none_left : (text : List ℕ) (row : Row) → None ≡ first_of row → items_of text row ≡ Ok []
unfolding items_of
none_left text nothing e = refl
none_left text (a_word start end r) e = cc
none_left text (a_text start end r) e = cc
none_left text (a_list opening inner closing r) e = cc

append_none : (ts : List ItemTree) → ts ++ [] ≡ ts
append_none [] = refl
append_none (t ∷ ts) = ap (λ us. t ∷ us) (append_none ts)

pub items_end : (text : List ℕ) (forms : List Form) (rest : Block) (is : List Item) (row : Row) → (s : Items text forms rest is row) →
    None ≡ first_of s.left → AreItems forms is (items_of text row)
items_end text forms rest is row s n =
    let all : items_of text row ≡ Ok s.trees = s.same ∙ ap (behind_items s.trees) (none_left text s.left n) ∙ ap Ok (append_none s.trees) in
    subst (AreItems forms is) (sym all) s.stand
