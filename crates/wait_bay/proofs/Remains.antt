-- The slots of a bay at its end.
use Rattle.std.proofs.Common.{◌≡◌, ◌≢◌, ◌==◌, ◌⊎◌, inl, inr, ◌<◌, ◌≤◌, ◌+◌, ℕ, zero, suc, true, false, Bool, Option, Some, List, [], ◌∷◌, ◌++◌, length, set}
use Rattle.std.proofs.{Common.{get_or, get_or-set_other, sym, refl, ◌∙◌, subst, arith, All, AllPairs}, lemmas.Bool.Decides.nat_tests}
use Rattle.std.proofs.lemmas.List.{Elements.{All-get_or, All-push}, Quantifiers.all_pairs_push}
use mathlib.Core.{Logic.dite, Option.{some, some-ne-none, some-injective}}
use native.Mathlib.Decide.{ℕ_discrete}
use lib.ListN.{get_elem?}
use Rattle.atomic_table.specs.Table.{Final}
use Rattle.fiber_poll.specs.Tasks.{TaskView}
use Rattle.wait_bay.{specs.{Names.{ComesBefore, Named, IsNamed, MayLie}, Rule.KeepsTasks}, proofs.Keeping.emptied}

pub other_flag : (fs : List Bool) (f g : ℕ) → g ≢ f → get_or (set fs f false) g false ≡ get_or fs g false
other_flag fs f g apart = rw get_or-set_other

pub this_flag : (fs : List Bool) (f : ℕ) → get_or (set fs f false) f false ≡ false
this_flag [] f = refl
this_flag (b ∷ fs) zero = refl
this_flag (b ∷ fs) (suc f) = this_flag fs f

pub later_full : (fs : List Bool) (f n : ℕ) → ((k : ℕ) → f ≤ k → k < n → get_or fs k false ≡ true) → (k : ℕ) → f + 1 ≤ k → k < n →
    get_or (set fs f false) k false ≡ true
later_full fs f n h k le lt = other_flag fs f k (λ e. omega arith) ∙ h k (omega arith) lt

pub earlier_taken : (fs : List Bool) (f : ℕ) → ((k : ℕ) → k < f → get_or fs k false ≡ false) → (k : ℕ) → k < f + 1 → get_or (set fs f false) k false ≡ false
earlier_taken fs f h k lt = dite (ℕ_discrete k f)
    (λ same. subst (λ (i : ℕ). get_or (set fs f false) i false ≡ false) (sym same) (this_flag fs f))
    (λ apart. other_flag fs f k apart ∙ h k (omega arith))

read_word : (ws : List ℕ) (f w : ℕ) → get_elem? ws f ≡ some w → get_or ws f 0 ≡ w
read_word [] f w e = absurd (some-ne-none w (sym e))
read_word (x ∷ xs) zero w e = some-injective _ _ e
read_word (x ∷ xs) (suc f) w e = read_word xs f w e

is_zero : (w : ℕ) → (w == 0) ≡ true → w ≡ 0
is_zero w e = grind (arith, nat_tests)

at_within : {A : Type 0} (l : List A) (i : ℕ) (a : A) → get_elem? l i ≡ some a → i < length l
at_within [] i a e = absurd (some-ne-none a (sym e))
at_within (x ∷ xs) zero a e = omega arith
at_within (x ∷ xs) (suc i) a e = let h = at_within xs i a e in omega arith

-- numbers that are below one are below the next
one_more : (f : ℕ) (ts : List TaskView) → All (λ (t : TaskView). t.state.number < f) ts → All (λ (t : TaskView). t.state.number < f + 1) ts
one_more f ts all = λ k d lt. let h = all k d lt in omega (arith, h)

-- what is kept of a slot is what was at home there
pub kept_task : (named : Option Named) (ws : List ℕ) (xs : List (Option TaskView)) (f w : ℕ) (found : Option TaskView) (old new : List TaskView)
    → Final (KeepsTasks named) ws xs → get_elem? ws f ≡ some w → get_elem? xs f ≡ some found → All (IsNamed named) old
    → (new ≡ old) ⊎ ((t : TaskView) × ((w == 0) ≡ true) × (found ≡ Some t) × (new ≡ old ++ t ∷ [])) → All (IsNamed named) new
kept_task named ws xs f w found old new fin word_is at all (inl same) = subst (λ (l : List TaskView). All (IsNamed named) l) (sym same) all
kept_task named ws xs f w found old new fin word_is at all (inr kept) =
    let may = emptied named ws xs f found fin (at_within xs f found at) (read_word ws f w word_is ∙ is_zero w kept.1) at in
    let mine : IsNamed named kept.0 = (subst (λ (y : Option TaskView). MayLie named f y) kept.2 may).1 in
    subst (λ (l : List TaskView). All (IsNamed named) l) (sym kept.3) (All-push (IsNamed named) old kept.0 all mine)

-- what is at home in a slot has that slot's number
pub found_own : (named : Option Named) (ws : List ℕ) (xs : List (Option TaskView)) (f w : ℕ) (found : Option TaskView)
    → Final (KeepsTasks named) ws xs → get_elem? ws f ≡ some w → get_elem? xs f ≡ some found → (w == 0) ≡ true → (t : TaskView) → found ≡ Some t →
    t.state.number ≡ f
found_own named ws xs f w found fin word_is at zero_is t found_is =
    let may = emptied named ws xs f found fin (at_within xs f found at) (read_word ws f w word_is ∙ is_zero w zero_is) at in
    (subst (λ (y : Option TaskView). MayLie named f y) found_is may).0

-- what is kept of the slots up to one has numbers below the next
pub kept_below : (f w : ℕ) (found : Option TaskView) (old new : List TaskView) → ((w == 0) ≡ true → (t : TaskView) → found ≡ Some t → t.state.number ≡ f)
    → All (λ (t : TaskView). t.state.number < f) old → (new ≡ old) ⊎ ((t : TaskView) × ((w == 0) ≡ true) × (found ≡ Some t) × (new ≡ old ++ t ∷ []))
    → All (λ (t : TaskView). t.state.number < f + 1) new
kept_below f w found old new own all (inl same) =
    subst (λ (l : List TaskView). All (λ (t : TaskView). t.state.number < f + 1) l) (sym same) (one_more f old all)
kept_below f w found old new own all (inr kept) =
    let mine = own kept.1 kept.0 kept.2 in
    subst (λ (l : List TaskView). All (λ (t : TaskView). t.state.number < f + 1) l) (sym kept.3)
    (All-push (λ (t : TaskView). t.state.number < f + 1) old kept.0 (one_more f old all) (omega (arith, mine)))

-- what is kept of a slot comes behind what was kept of those before it
pub kept_order : (f w : ℕ) (found : Option TaskView) (old new : List TaskView) → ((w == 0) ≡ true → (t : TaskView) → found ≡ Some t → t.state.number ≡ f)
    → All (λ (t : TaskView). t.state.number < f) old → AllPairs ComesBefore old → (new ≡ old) ⊎
    ((t : TaskView) × ((w == 0) ≡ true) × (found ≡ Some t) × (new ≡ old ++ t ∷ []))
    → AllPairs ComesBefore new
kept_order f w found old new own all order (inl same) = subst (λ (l : List TaskView). AllPairs ComesBefore l) (sym same) order
kept_order f w found old new own all order (inr kept) =
    subst (λ (l : List TaskView). AllPairs ComesBefore l) (sym kept.3)
    (all_pairs_push ComesBefore old kept.0 order
    (λ k d lt. subst (λ (n : ℕ). (get_or old k d).state.number < n) (sym (own kept.1 kept.0 kept.2))
    (All-get_or (λ (t : TaskView). t.state.number < f) old k d lt all)))
