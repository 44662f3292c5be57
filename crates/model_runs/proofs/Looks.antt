-- The verdicts of claims at any moment.
use Rattle.std.proofs.Common.{◌≡◌, ℕ, zero, suc, ◌+◌, ◌<◌, Bool, true, false, List, [], ◌∷◌, ◌++◌, length, drop, take, map, refl, sym, ap, ◌∙◌, subst, arith}
use Rattle.std.proofs.{Common.{inl, inr, get_or}, lemmas.List.{at_drop_more, drop-drop, drop_at, map_more, Elements.{All-append, All-get_or}}}
use Rattle.std.{proofs.lemmas.Option.{get_or_from_slice_get, same_Some, slice_get_within}, specs.{Prelude.{Option, Some, None, IfSome, IfNone}, List.All}}
use Rattle.std.specs.{List.{AllWithin, slice_get}, Option.is_some}
use Rattle.derived_ops.specs.Tree.{Tree}
use Rattle.cell_registry.specs.declared.limits.Limits.{Limits}
use Rattle.world_search.specs.{declared.claims.Met.Met, Claims.IsFound}
use Rattle.every_schedule.specs.{declared.claims.ClaimWord.ClaimWord, Claims.{IsMetIn, Meets}}
use Rattle.model_claims.specs.declared.claim.Claim.{Claim}
use Rattle.claim_verdicts.specs.declared.judging.Rule.{Rule}
use Rattle.model_runs.specs.{declared.{moments.Moments.Moments, result.NamedAnswer.NamedAnswer}, Moments.{AreMet, IsJudgedAt, IsShownAt, NoneMeets, SomeMeets}}
use Rattle.model_runs.specs.{Moments.{sought_in, soughts}, Private.Looking.{IsMetAt, IsRightAt, IsRightOf, IsRightAtSome, moment_verdict}}
use Rattle.claim_verdicts.specs.declared.judging.Rule.TheVariants as rules

pub all_at : {A : Type 0} (P : A → Type 0) (xs : List A) (i : ℕ) (x : A) → slice_get xs i ≡ Some x → All P xs → P x
all_at P xs i x e h = subst P (get_or_from_slice_get xs i x x e) (All-get_or P xs i x (slice_get_within xs i x e) h)

-- if no element is the claim of this number, the claim isn't found
pub unfound : (met : List Met) (n : ℕ) → AllWithin (λ m. m.claim ≡ n → ⊥) met 0 (length met) → IsFound n met → ⊥
unfound met n none f =
    let low = slice_get_within met f.1.0 f.0 f.1.1 in
    none f.1.0 f.0 (omega arith) low (ap (λ (m : Met). m.claim) (get_or_from_slice_get met f.1.0 f.0 f.0 f.1.1) ∙ f.2)

-- the schedule of the claim's element meets its words
pub meets_at : (code : Tree) (k : Limits) (wanted : List (List ClaimWord)) (words : List ClaimWord) (met : List Met) (n i : ℕ) →
    All (IsMetIn code k wanted) met → slice_get wanted n ≡ Some words → (f : IsMetAt met n i) →
    Meets code k words f.0.schedule.items
meets_at code k wanted words met n i each there f =
    let is : IsMetIn code k wanted f.0 = all_at (IsMetIn code k wanted) met i f.0 f.1 each in
    let same : is.0 ≡ words = same_Some is.0 words (sym is.1 ∙ ap (slice_get wanted) f.2 ∙ there) in
    subst (λ (ws : List ClaimWord). Meets code k ws f.0.schedule.items) same is.2

some_meets : (code : Tree) (k : Limits) (wanted : List (List ClaimWord)) (words : List ClaimWord) (met : List Met) (n : ℕ) →
    All (IsMetIn code k wanted) met → slice_get wanted n ≡ Some words → (at : Option ℕ) → IfSome at (IsMetAt met n) →
    IfSome at (λ i. SomeMeets code k words)
some_meets code k wanted words met n each there None f = tt
some_meets code k wanted words met n each there (Some i) f =
    (f.0.schedule.items, meets_at code k wanted words met n i each there f)

none_meets : (code : Tree) (k : Limits) (wanted : List (List ClaimWord)) (words : List ClaimWord) (it : Moments) (n : ℕ) →
    IsRightAt code k wanted it → slice_get wanted n ≡ Some words → (at : Option ℕ) → IfNone at (IsFound n it.met.items → ⊥) →
    IfNone at (it.search.complete ≡ true → NoneMeets code k words)
none_meets code k wanted words it n right there None f = λ complete. right.met.none complete n words there f
none_meets code k wanted words it n right there (Some i) f = tt

judged_by : (code : Tree) (k : Limits) (words : List ClaimWord) (rule : Rule) (faulty explored searched : Bool) (at : Option ℕ) →
    IfSome at (λ i. SomeMeets code k words) → IfNone at (searched ≡ true → NoneMeets code k words) →
    IsJudgedAt code k words rule faulty explored searched (moment_verdict rule faulty (is_some at) explored searched)
judged_by code k words rules.Every true explored searched at some none = inl refl
judged_by code k words rules.Every false explored searched (Some i) some none = inr some
judged_by code k words rules.Every false true true None some none = (refl, refl, none refl)
judged_by code k words rules.Every false true false None some none = (refl, refl)
judged_by code k words rules.Every false false searched None some none = (refl, refl)
judged_by code k words rules.Some faulty explored searched (Some i) some none = some
judged_by code k words rules.Some faulty explored true None some none = none refl
judged_by code k words rules.Some faulty explored false None some none = refl

-- the verdict is right
pub judged : (code : Tree) (k : Limits) (wanted : List (List ClaimWord)) (words : List ClaimWord) (it : Moments) (n : ℕ) →
    IsRightAt code k wanted it → slice_get wanted n ≡ Some words → (rule : Rule) (faulty explored : Bool) (at : Option ℕ) →
    IfSome at (IsMetAt it.met.items n) → IfNone at (IsFound n it.met.items → ⊥) →
    IsJudgedAt code k words rule faulty explored it.search.complete
    (moment_verdict rule faulty (is_some at) explored it.search.complete)
judged code k wanted words it n right there rule faulty explored at some none =
    judged_by code k words rule faulty explored it.search.complete at
    (some_meets code k wanted words it.met.items n right.met.each there at some)
    (none_meets code k wanted words it n right there at none)

-- the answer of this index has the schedule of the element of this index
answer_at : (answers : List NamedAnswer) (met : List Met) (i : ℕ) (m : Met) → map (λ a. a.schedule) answers ≡ map (λ (x : Met). x.schedule.items) met →
    slice_get met i ≡ Some m → (a : NamedAnswer) × (slice_get answers i ≡ Some a) × (a.schedule ≡ m.schedule.items)
answer_at [] [] i m same at = absurd (cc)
answer_at [] (y ∷ met) i m same at = absurd (cc)
answer_at (a ∷ answers) [] i m same at = absurd (cc)
answer_at (a ∷ answers) (y ∷ met) zero m same at =
    (a, refl, same_Some _ _ (ap (λ l. slice_get l 0) same) ∙ ap (λ (x : Met). x.schedule.items) (same_Some y m at))
answer_at (a ∷ answers) (y ∷ met) (suc i) m same at = answer_at answers met i m (ap (drop 1) same) at

-- the moment that is shown decides the claim
pub shown_by : (code : Tree) (k : Limits) (wanted : List (List ClaimWord)) (words : List ClaimWord) (it : Moments) (n : ℕ) →
    IsRightAt code k wanted it → slice_get wanted n ≡ Some words → (at_moment : Bool) (shown at : Option ℕ) →
    IfSome at (IsMetAt it.met.items n) → (at_moment ≡ true → shown ≡ at) →
    IsShownAt code k words it.search.answers.items at_moment shown
shown_by code k wanted words it n right there false shown at some same = tt
shown_by code k wanted words it n right there true None at some same = tt
shown_by code k wanted words it n right there true (Some i) None some same = absurd (let e : Some i ≡ None = same refl in cc)
shown_by code k wanted words it n right there true (Some i) (Some j) some same =
    let is : IsMetAt it.met.items n i = subst (λ (x : ℕ). IsMetAt it.met.items n x) (sym (same_Some i j (same refl))) some in
    let a = answer_at it.search.answers.items it.met.items i is.0 right.same is.1 in (
      a.0,
      a.1,
      subst (λ (s : List ℕ). Meets code k words s) (sym a.2)
          (meets_at code k wanted words it.met.items n i right.met.each there is),
    )

-- two lists with equal images, after one more image of each
pub one_more_alike : {A B S : Type 0} (f : A → S) (g : B → S) (xs ys : List A) (bs : List B) (i : ℕ) (b : B) →
    i < length bs → b ≡ get_or bs i b → map f xs ≡ map g (take i bs) → map f ys ≡ map f xs ++ g b ∷ [] →
    map f ys ≡ map g (take (i + 1) bs)
one_more_alike f g xs ys bs i b low at before more =
    more ∙ ap (λ l. l ++ g b ∷ []) before ∙ ap (λ s. map g (take i bs) ++ s ∷ []) (ap g at) ∙ sym (map_more g bs i b low)

-- what a search that isn't complete has found, with other conditions that are met
pub more_met : (code : Tree) (k : Limits) (wanted : List (List ClaimWord)) (xs ys : List Met) → All (IsMetIn code k wanted) xs →
    All (IsMetIn code k wanted) ys → AreMet code k wanted false (xs ++ ys)
more_met code k wanted xs ys one other = record {
  each = All-append (IsMetIn code k wanted) xs ys one other;
  none = λ complete. absurd (cc);
}

-- ---- the numbers of claims
get_drop : {A : Type 0} (xs : List A) (n : ℕ) → slice_get (drop n xs) 0 ≡ slice_get xs n
get_drop [] zero = refl
get_drop [] (suc n) = refl
get_drop (x ∷ xs) zero = refl
get_drop (x ∷ xs) (suc n) = get_drop xs n

-- the conditions from this claim on
left_at : (cs : List Claim) (i n : ℕ) (c : Claim) → i < length cs → c ≡ get_or cs i c → drop n (soughts cs) ≡ soughts (drop i cs) →
    drop n (soughts cs) ≡ sought_in c.rule c.moment ++ soughts (drop (i + 1) cs)
left_at cs i n c low at left =
    left ∙ at_drop_more soughts cs i c low ∙ ap (λ (x : Claim). soughts (x ∷ drop (i + 1) cs)) (sym at)

-- the conditions behind this claim
pub left_behind : (cs : List Claim) (i n m : ℕ) (c : Claim) → i < length cs → c ≡ get_or cs i c →
    drop n (soughts cs) ≡ soughts (drop i cs) → m ≡ length (sought_in c.rule c.moment) →
    drop (n + m) (soughts cs) ≡ soughts (drop (i + 1) cs)
left_behind cs i n m c low at left long =
    sym (drop-drop m n (soughts cs)) ∙ ap (drop m) (left_at cs i n c low at left)
    ∙ drop_at (sought_in c.rule c.moment) (soughts (drop (i + 1) cs)) m (sym long)

-- the condition that decides claim `i` has number `n`
pub right_of : (cs : List Claim) (i n : ℕ) (c : Claim) (it : Moments) → i < length cs → c ≡ get_or cs i c →
    drop n (soughts cs) ≡ soughts (drop i cs) → IsRightAtSome (soughts cs) it → IsRightOf c n it
right_of cs i n c it low at left right = record {
  wanted = soughts cs;
  right = right;
  there = λ words spoken.
      sym (get_drop (soughts cs) n) ∙ ap (λ l. slice_get l 0) (left_at cs i n c low at left)
      ∙ ap (λ o. slice_get (sought_in c.rule o ++ soughts (drop (i + 1) cs)) 0) spoken;
}

pub some_in : {A : Type 0} (o : Option A) → is_some o ≡ true → (x : A) × (o ≡ Some x)
some_in (Some x) e = (x, refl)
some_in None e = absurd (cc)
