-- A search of outcomes is right: its answers are those of an exploration, without long ones, sorted.
use Rattle.std.proofs.{Common.{◌≡◌, ◌≤◌, ◌==◌, ◌&&◌, ◌++◌, ℕ, Bool, true, false, IfOk, List, length, leb, refl, sym, ap, ◌∙◌, subst, arith}, lemmas.Bool.eqb-true}
use Rattle.std.{proofs.lemmas.{Bool.leb-true, Option.slice_get-get_or, List.{Elements.{All-append, All-filter, filter_passes}, Sorted.{All-permutation, IsPermutation-sym}}}, specs.Prelude.Option}
use Rattle.std.specs.{Prelude.{Some, Result, Ok, Err}, List.{All, filter, slice_get, Sorted.IsPermutation}}
use Rattle.derived_ops.specs.Tree.{Tree}
use Rattle.effect_term.specs.declared.reply.Outcome.{Outcome}
use Rattle.cell_registry.specs.declared.limits.{Limits.Limits, RunError.RunError}
use Rattle.scheduled_core.specs.Core.{World, core}
use Rattle.every_schedule.specs.{declared.exploration.Answer.Answer, Explored.{IsCovered as IsAnswerCovered, IsReached as IsAnswerReached}}
use Rattle.every_outcome.{proofs.Filtered.filter_whole, specs.declared.outcomes.OutcomeAnswer.OutcomeAnswer}
use Rattle.every_outcome.specs.{declared.outcomes.OutcomeExploration.OutcomeExploration, Outcomes.{IsCovered, IsListed, IsReached, counted}}
use Rattle.model_runs.{specs.{declared.result.{NamedAnswer.NamedAnswer, Search.Search}, Seeing.{AreAll, AreOutcomesOf, IsAllOf, IsRight, IsSeen}}, proofs.Looks.all_at}
use Rattle.cell_registry.specs.declared.limits.RunError.TheVariants as run

-- this answer is one of these
IsIn : List OutcomeAnswer → OutcomeAnswer → Type 0
IsIn xs a = (i : ℕ) × (slice_get xs i ≡ Some a)

-- each answer of a list is one of them
all_in : (xs : List OutcomeAnswer) → All (IsIn xs) xs
unfolding IsIn
all_in xs = λ i d low. (i, slice_get-get_or xs i d low)

listed_sorted : (xs ys : List OutcomeAnswer) (end : Result (List (Option Outcome)) RunError) → IsPermutation xs ys → IsListed xs end → IsListed ys end
unfolding IsIn
listed_sorted xs ys end moved l =
    let there : All (IsIn ys) ys = all_in ys in
    let here : All (IsIn ys) xs = All-permutation (IsIn ys) ys xs (IsPermutation-sym xs ys moved) there in
    let k : IsIn ys l.1 = all_at (IsIn ys) xs l.0 l.1 l.2 here in
    (k.0, l.1, k.1, l.3)

-- what is covered stays so if answers are sorted
covered_sorted : (k : Limits) (xs ys : List OutcomeAnswer) (x : Result World RunError) → IsPermutation xs ys → IsCovered k xs x → IsCovered k ys x
covered_sorted k xs ys (Ok w) moved h = λ keeps. listed_sorted xs ys _ moved (h keeps)
covered_sorted k xs ys (Err (run.Full band n)) moved h = listed_sorted xs ys _ moved h
covered_sorted k xs ys _ moved h = tt

-- a search with all answers that there are is right
pub right_search : (code : Tree) (k : Limits) (s : Search) (marked : Bool) → s.marked ≡ marked → All (IsSeen code k) s.answers.items →
    (s.complete ≡ true → AreAll marked code k s.answers.items) → IsRight code k s
right_search code k s marked is seen all = record {
  each = seen;
  all = λ complete. subst (λ (m : Bool). AreAll m code k s.answers.items) (sym is) (all complete);
}

-- what holds of two lists holds of both together
pub all_more : {A : Type 0} (P : A → Type 0) (zs xs ys : List A) → zs ≡ xs ++ ys → All P xs → All P ys → All P zs
all_more P zs xs ys same one other = subst (All P) (sym same) (All-append P xs ys one other)

-- a search that isn't complete, with answers that are right, is right
pub right_joined : (code : Tree) (k : Limits) (it : Result Search RunError) (xs ys : List NamedAnswer) → IfOk it (λ s. s.complete ≡ false) →
    IfOk it (λ s. s.answers.items ≡ xs ++ ys) → All (IsSeen code k) xs → All (IsSeen code k) ys → IfOk it (IsRight code k)
right_joined code k (Ok s) xs ys ended same one other =
    right_search code k s s.marked refl (subst (All (IsSeen code k)) (sym same) (All-append (IsSeen code k) xs ys one other))
    (λ complete. absurd (let e : true ≡ false = sym complete ∙ ended in cc))
right_joined code k (Err e) xs ys ended same one other = tt

both_true : (a b : Bool) → (a && b) ≡ true → (a ≡ true) × (b ≡ true)
both_true true b e = (refl, e)
both_true false b e = absurd (cc)

abbrev is_short : ℕ → OutcomeAnswer → Bool
is_short most a = leb (length a.schedule) most

-- an exploration of outcomes, what is kept of it, and the same sorted
module _ (code : Tree) (k : Limits) (explored kept found : OutcomeExploration) (most : ℕ)
    (answers_are : kept.answers.items ≡ filter (is_short most) explored.answers.items)
    (complete_is : kept.complete ≡ (explored.complete && (length kept.answers.items == length explored.answers.items)))
    (moved : IsPermutation kept.answers.items found.answers.items)
    (covered : explored.complete ≡ true → (count : ℕ) (schedule : List ℕ) →
    IsCovered k explored.answers.items (core code (counted k count) schedule))
    (reached : All (IsReached code k) explored.answers.items)
  where
    -- if what is kept is complete, all answers are kept
    whole : kept.complete ≡ true → (explored.complete ≡ true) × (kept.answers.items ≡ explored.answers.items)
    whole complete =
        let h = both_true explored.complete _ (sym complete_is ∙ complete) in
        let many = eqb-true (length kept.answers.items) (length explored.answers.items) h.1 in
        (h.0, answers_are ∙ filter_whole (is_short most) explored.answers.items (sym (ap length answers_are) ∙ many))

    short_kept : All (λ a. length a.schedule ≤ most) kept.answers.items
    short_kept = subst (All (λ (a : OutcomeAnswer). length a.schedule ≤ most)) (sym answers_are) (λ i d low.
        leb-true _ _ (filter_passes (is_short most) explored.answers.items i d low))

    reached_kept : All (IsReached code k) kept.answers.items
    reached_kept = subst (All (IsReached code k)) (sym answers_are) (All-filter (is_short most) (IsReached code k) explored.answers.items reached)

    short_found : most ≤ k.count → All (λ a. length a.schedule ≤ k.count) found.answers.items
    short_found low = λ i d within.
        let h = All-permutation (λ (a : OutcomeAnswer). length a.schedule ≤ most) kept.answers.items found.answers.items moved short_kept i d within in
        omega arith

    all_covered : kept.complete ≡ true → (count : ℕ) (schedule : List ℕ) → IsCovered k found.answers.items (core code (counted k count) schedule)
    all_covered complete count schedule =
        let h = whole complete in
        covered_sorted k kept.answers.items found.answers.items _ moved
        (subst (λ (l : List OutcomeAnswer). IsCovered k l (core code (counted k count) schedule)) (sym h.1) (covered h.0 count schedule))

    -- the answers of a complete exploration without long ones are all that there are
    all_outcomes : (answers : List NamedAnswer) → most ≤ k.count → AreOutcomesOf found.answers.items answers → kept.complete ≡ true →
        AreAll false code k answers
    all_outcomes answers low same complete = (
      found.answers.items,
      All-permutation (IsReached code k) kept.answers.items found.answers.items moved reached_kept,
      all_covered complete,
      short_found low,
      same,
    )

    -- a search with all outcomes is right
    pub right_outcomes : (listed : List OutcomeAnswer) (answers : List NamedAnswer) (given : Bool) (s : Search) → most ≤ k.count →
        found.complete ≡ kept.complete → listed ≡ found.answers.items → s.marked ≡ false → (s.complete ≡ true → found.complete ≡ true) →
        (s.complete ≡ true → given ≡ true) → s.answers.items ≡ answers → All (IsSeen code k) answers →
        (given ≡ true → AreOutcomesOf listed answers) → IsRight code k s
    right_outcomes listed answers given s low closed same marked complete whole is seen all =
        right_search code k s false marked (subst (All (IsSeen code k)) (sym is) seen) (λ ends.
        all_outcomes s.answers.items low
        (subst (λ (l : List OutcomeAnswer). AreOutcomesOf l s.answers.items) same (subst (AreOutcomesOf listed) (sym is) (all (whole ends))))
        (sym closed ∙ complete ends))

-- a search with all answers of an exploration of reports is right
pub right_reports : (code : Tree) (k : Limits) (found listed : List Answer) (answers : List NamedAnswer) (closed given : Bool) (s : Search) →
    (closed ≡ true → (schedule : List ℕ) → IsAnswerCovered k found (core code k schedule)) → All (IsAnswerReached code k) found → listed ≡ found →
    s.marked ≡ true → (s.complete ≡ true → closed ≡ true) → (s.complete ≡ true → given ≡ true) → s.answers.items ≡ answers →
    All (IsSeen code k) answers → (given ≡ true → IsAllOf listed answers) → IsRight code k s
right_reports code k found listed answers closed given s covered reached same marked complete whole is seen all =
    right_search code k s true marked (subst (All (IsSeen code k)) (sym is) seen) (λ ends. (
      found,
      reached,
      covered (complete ends),
      subst (λ (l : List Answer). IsAllOf l s.answers.items) same (subst (IsAllOf listed) (sym is) (all (whole ends))),
    ))
