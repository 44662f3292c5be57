-- The names of a canonical text: each binder is spelled by its kind and its slot.
use Rattle.std.proofs.Common.{◌≡◌, ◌+◌, ◌^◌, ◌<◌, ◌≤◌, ◌==◌, ℕ, zero, suc, Bool, true, false, cond, List, [], ◌∷◌, ◌++◌, length, Some, Ok, refl, ap, sym, ◌∙◌}
use Rattle.std.proofs.{Common.{arith, decimal, append_assoc, slice_get, length-append}, lemmas.Fmt.decimal_injective}
use Rattle.effect_term.specs.declared.term.{Kind.Kind, Name.Name}
use Rattle.term_parse.specs.{declared.table.Part.{Part, TheVariants.{Under, UnderBoth}}, Reading.{Bound, meaning, picked}}
use Rattle.term_parse.specs.{Reading.entered, Innermost.{Unspelled, IsInnermost}, Spelling.{name_spelling, outer_binders}}
use Rattle.term_parse.proofs.ScopeLaws.{meaning-from_innermost}

-- binders of these kinds, of which the first has this slot
abbrev pub names_from : ℕ → List Kind → List Bound
names_from n [] = []
names_from n (k ∷ ks) = record { spelling = name_spelling k n; kind = k } ∷ names_from (suc n) ks

abbrev pub scope_of : List Kind → List Bound
scope_of ks = names_from 0 ks

names_from-append : (n : ℕ) (js ks : List Kind) → names_from n (js ++ ks) ≡ names_from n js ++ names_from (n + length js) ks
names_from-append n [] ks = let e : n ≡ n + 0 = omega arith in ap (λ m. names_from m ks) e
names_from-append n (j ∷ js) ks =
    let e : suc n + length js ≡ n + suc (length js) = omega arith in
    ap (λ bs. record { spelling = name_spelling j n; kind = j } ∷ bs) (names_from-append (suc n) js ks ∙ ap (λ m. names_from (suc n) js ++ names_from m ks) e)

length-names_from : (n : ℕ) (ks : List Kind) → length (names_from n ks) ≡ length ks
length-names_from n [] = refl
length-names_from n (k ∷ ks) = ap suc (length-names_from (suc n) ks)

-- names of later slots are spelled otherwise
unspelled_from : (n m : ℕ) (ks : List Kind) (k : Kind) → m < n → n + length ks < 2 ^ 64 → Unspelled (names_from n ks) (name_spelling k m)
unspelled_from n m [] k l s = tt
unspelled_from n m (j ∷ ks) k l s = (
  λ e. let same : decimal n ≡ decimal m = cc in let at : n ≡ m = decimal_injective n m (omega arith) (omega arith) same in omega arith,
  unspelled_from (suc n) m ks k (omega arith) (omega arith),
)

pub split_at : (ks : List Kind) (i : ℕ) (k : Kind) → slice_get ks i ≡ Some k → (js : List Kind) × (ls : List Kind) × (ks ≡ js ++ k ∷ ls) × (length js ≡ i)
split_at [] i k e = cc
split_at (j ∷ ks) zero k e = let same : j ≡ k = cc in ([], ks, ap (λ x. x ∷ ks) same, refl)
split_at (j ∷ ks) (suc i) k e = let s = split_at ks i k e in (j ∷ s.0, s.1, ap (λ x. j ∷ x) s.2, ap suc s.3)

pub slot_below : (ks : List Kind) (i : ℕ) (k : Kind) → slice_get ks i ≡ Some k → i < length ks
slot_below ks i k e = let s = split_at ks i k e in omega (arith, s.3, ap length s.2, length-append s.0 (k ∷ s.1))

innermost : (ks : List Kind) (n : Name) (k : Kind) → slice_get ks n.slot ≡ Some k → n.kind ≡ k → length ks < 2 ^ 64 →
    IsInnermost (scope_of ks) (name_spelling n.kind n.slot) n
innermost ks n k e q l =
    let s = split_at ks n.slot k e in
    let at : 0 + length s.0 ≡ n.slot = omega (arith, s.3) in
    let all : length ks ≡ length s.0 + suc (length s.1) = omega (arith, ap length s.2, length-append s.0 (k ∷ s.1)) in
    record {
      before = names_from 0 s.0;
      binder = record { spelling = name_spelling k (0 + length s.0); kind = k };
      behind = names_from (suc (0 + length s.0)) s.1;
      scope_is = ap scope_of s.2 ∙ names_from-append 0 s.0 (k ∷ s.1);
      spelled = ap (λ j. name_spelling j (0 + length s.0)) (sym q) ∙ ap (name_spelling n.kind) at;
      unshadowed = unspelled_from (suc (0 + length s.0)) n.slot s.1 n.kind (omega (arith, s.3)) (omega arith);
      slot_is = sym s.3 ∙ sym (length-names_from 0 s.0);
      kind_is = q;
    }

pub meant : (ks : List Kind) (n : Name) (k : Kind) (at : ℕ) → slice_get ks n.slot ≡ Some k → n.kind ≡ k → length ks < 2 ^ 64 →
    meaning (scope_of ks) k (name_spelling n.kind n.slot) at ≡ Ok n
meant ks n k at e q l = meaning-from_innermost (scope_of ks) k (name_spelling n.kind n.slot) at n (innermost ks n k e q l, q)

-- a form's own binder: its kind, and how many of the form's binders enclose it
pub record Own : Type 0 where
  pub kind : Kind
  pub outer : ℕ

-- a form's own binders, where so many enclose the form
abbrev pub own_names : ℕ → List Own → List Bound
own_names n [] = []
own_names n (b ∷ bs) = record { spelling = name_spelling b.kind (n + b.outer); kind = b.kind } ∷ own_names n bs

pub own_names-append : (n : ℕ) (bs cs : List Own) → own_names n (bs ++ cs) ≡ own_names n bs ++ own_names n cs
own_names-append n [] cs = refl
own_names-append n (b ∷ bs) cs = ap (λ x. record { spelling = name_spelling b.kind (n + b.outer); kind = b.kind } ∷ x) (own_names-append n bs cs)

slice_get-own : (n : ℕ) (bs : List Own) (i : ℕ) (o : Own) → slice_get bs i ≡ Some o →
    slice_get (own_names n bs) i ≡ Some (record { spelling = name_spelling o.kind (n + o.outer); kind = o.kind })
slice_get-own n [] i o e = cc
slice_get-own n (b ∷ bs) zero o e = let same : b ≡ o = cc in
    ap (λ (x : Own). Some (record { spelling = name_spelling x.kind (n + x.outer); kind = x.kind })) same
slice_get-own n (b ∷ bs) (suc i) o e = slice_get-own n bs i o e

picked_own : (n : ℕ) (bs : List Own) (i : ℕ) (o : Own) → slice_get bs i ≡ Some o →
    picked (own_names n bs) i ≡ record { spelling = name_spelling o.kind (n + o.outer); kind = o.kind } ∷ []
unfolding picked
picked_own n bs i o e = rw (slice_get-own n bs i o e, picked) refl

pub entered_under : (ks : List Kind) (bs : List Own) (i : ℕ) (k : Kind) → slice_get bs i ≡ Some (record { kind = k; outer = 0 }) →
    entered (scope_of ks) (own_names (length ks) bs) (Under i) ≡ scope_of (ks ++ k ∷ [])
unfolding entered
entered_under ks bs i k e =
    let at : length ks + 0 ≡ 0 + length ks = omega arith in
    ap (λ x. scope_of ks ++ x) (picked_own (length ks) bs i (record { kind = k; outer = 0 }) e)
    ∙ ap (λ m. scope_of ks ++ (record { spelling = name_spelling k m; kind = k } ∷ [])) at
    ∙ sym (names_from-append 0 ks (k ∷ []))

pub entered_both : (ks : List Kind) (bs : List Own) (i j : ℕ) (k l : Kind) → slice_get bs i ≡ Some (record { kind = k; outer = 0 }) →
    slice_get bs j ≡ Some (record { kind = l; outer = 1 }) → entered (scope_of ks) (own_names (length ks) bs) (UnderBoth i j) ≡ scope_of (ks ++ k ∷ l ∷ [])
unfolding entered
entered_both ks bs i j k l e f =
    let at : length ks + 0 ≡ 0 + length ks = omega arith in
    let next : length ks + 1 ≡ suc (0 + length ks) = omega arith in
    ap (λ x. (scope_of ks ++ x) ++ picked (own_names (length ks) bs) j) (picked_own (length ks) bs i (record { kind = k; outer = 0 }) e)
    ∙ ap (λ x. (scope_of ks ++ (record { spelling = name_spelling k (length ks + 0); kind = k } ∷ [])) ++ x)
    (picked_own (length ks) bs j (record { kind = l; outer = 1 }) f)
    ∙ append_assoc (scope_of ks) (record { spelling = name_spelling k (length ks + 0); kind = k } ∷ [])
    (record { spelling = name_spelling l (length ks + 1); kind = l } ∷ [])
    ∙ ap (λ m. scope_of ks ++ (record { spelling = name_spelling k m; kind = k } ∷ record { spelling = name_spelling l (length ks + 1); kind = l } ∷ [])) at
    ∙ ap (λ m. scope_of ks ++ (record { spelling = name_spelling k (0 + length ks); kind = k } ∷ record { spelling = name_spelling l m; kind = l } ∷ [])) next
    ∙ sym (names_from-append 0 ks (k ∷ l ∷ []))

one_or_less : (t : Bool) (n : ℕ) → n ≤ 1 → cond t 1 n ≤ 1
one_or_less true n l = omega arith
one_or_less false n l = l

pub outer_few : (i : ℕ) (ps : List Part) → outer_binders i ps ≤ 1
outer_few i [] = omega arith
outer_few i (UnderBoth j k ∷ ps) = one_or_less (k == i) (outer_binders i ps) (outer_few i ps)
outer_few i (_ ∷ ps) = outer_few i ps
