-- An exploration of outcomes without the answers whose schedules are long.
use Rattle.std.proofs.Common.{◌≡◌, ◌≢◌, ◌⊎◌, inl, inr, ℕ, zero, suc, ◌<◌, ◌≤◌, ◌==◌, ◌&&◌, Bool, true, false, cond, List, [], ◌∷◌, length, max, leb, refl, sym}
use Rattle.std.proofs.{Common.{ap, ◌∙◌, subst, arith, Ok}, lemmas.Bool.{eqb-false, eqb-true, leb-false, leb-true, Decides.leb_tells}}
use Rattle.std.{proofs.lemmas.{List.Elements.{All-filter, filter_passes}, Option.same_Some}, specs.{Prelude.Some, List.{All, filter, slice_get}}}
use Rattle.cell_registry.specs.declared.limits.Limits.{Limits}
use Rattle.derived_ops.specs.Tree.{Tree}
use Rattle.scheduled_core.specs.Core.{World, core}
use Rattle.scheduled_core.specs.Finals.{IsSettled}
use Rattle.world_search.specs.declared.answers.Bounds.{Bounds}
use Rattle.world_search.specs.Answers.{IsAtBound}
use Rattle.every_outcome.specs.declared.outcomes.OutcomeAnswer.{OutcomeAnswer}
use Rattle.every_outcome.specs.declared.outcomes.OutcomeExploration.{OutcomeExploration}
use Rattle.every_outcome.specs.Outcomes.{IsCovered, IsListed, IsReached, ListOnce, counted, outcomes}
use Rattle.every_outcome.proofs.Filtered.{filter_whole}
use Rattle.every_outcome.proofs.Told.{all_at}
use Rattle.outcome_answers.specs.OutcomesFound.{IsOutcomesOf, IsPastEntries}

-- ---- what a filter keeps
module _ {A : Type 0} (p : A → Bool) where
  kept_from : (b : Bool) (x : A) (xs : List A) (j : ℕ) (y : A) → p x ≡ b →
      ((i : ℕ) → slice_get (filter p xs) i ≡ Some y → (k : ℕ) × (slice_get xs k ≡ Some y) × (p y ≡ true)) →
      slice_get (cond b (x ∷ filter p xs) (filter p xs)) j ≡ Some y → (k : ℕ) × (slice_get (x ∷ xs) k ≡ Some y) × (p y ≡ true)
  kept_from true x xs zero y is rest e = (0, e, ap p (sym (same_Some x y e)) ∙ is)
  kept_from true x xs (suc j) y is rest e = let h = rest j e in (suc h.0, h.1, h.2)
  kept_from false x xs j y is rest e = let h = rest j e in (suc h.0, h.1, h.2)

  -- an element that is kept is in the list, and passes
  pub filter_at : (xs : List A) (j : ℕ) (y : A) → slice_get (filter p xs) j ≡ Some y → (k : ℕ) × (slice_get xs k ≡ Some y) × (p y ≡ true)
  filter_at [] j y e = absurd (cc)
  filter_at (x ∷ xs) j y e = kept_from (p x) x xs j y refl (λ i. filter_at xs i y) e

  lost_step : (b : Bool) (x : A) (xs : List A) → p x ≡ b →
      (length (filter p xs) ≢ length xs → (i : ℕ) × (y : A) × (slice_get xs i ≡ Some y) × (p y ≡ false)) →
      length (cond b (x ∷ filter p xs) (filter p xs)) ≢ suc (length xs) → (i : ℕ) × (y : A) × (slice_get (x ∷ xs) i ≡ Some y) × (p y ≡ false)
  lost_step true x xs is rest fewer = let h = rest (λ same. fewer (ap suc same)) in (suc h.0, h.1, h.2, h.3)
  lost_step false x xs is rest fewer = (0, x, refl, is)

  -- if fewer elements are kept, one doesn't pass
  pub filter_lost : (xs : List A) → length (filter p xs) ≢ length xs → (i : ℕ) × (y : A) × (slice_get xs i ≡ Some y) × (p y ≡ false)
  filter_lost [] fewer = absurd (fewer refl)
  filter_lost (x ∷ xs) fewer = lost_step (p x) x xs refl (filter_lost xs) fewer

-- ---- answers without repetition
once_behind : (x : OutcomeAnswer) (xs : List OutcomeAnswer) → ListOnce (x ∷ xs) → ListOnce xs
once_behind x xs once = λ i j a b low at bt. once (suc i) (suc j) a b (omega arith) at bt

once_cons : (x : OutcomeAnswer) (ys : List OutcomeAnswer) → ListOnce ys → ((j : ℕ) (b : OutcomeAnswer) → slice_get ys j ≡ Some b → x.end ≢ b.end) →
    (i j : ℕ) (a b : OutcomeAnswer) → i < j → slice_get (x ∷ ys) i ≡ Some a → slice_get (x ∷ ys) j ≡ Some b → a.end ≢ b.end
once_cons x ys once other zero zero a b low at bt = absurd (omega arith)
once_cons x ys once other zero (suc j) a b low at bt =
    subst (λ (y : OutcomeAnswer). y.end ≢ b.end) (same_Some x a at) (other j b bt)
once_cons x ys once other (suc i) zero a b low at bt = absurd (omega arith)
once_cons x ys once other (suc i) (suc j) a b low at bt = once i j a b (omega arith) at bt

module _ (p : OutcomeAnswer → Bool) where
  once_step : (b : Bool) (x : OutcomeAnswer) (xs : List OutcomeAnswer) → ListOnce (x ∷ xs) → ListOnce (filter p xs) →
      ListOnce (cond b (x ∷ filter p xs) (filter p xs))
  once_step true x xs once rest =
      once_cons x (filter p xs) rest (λ j b bt. let h = filter_at p xs j b bt in once 0 (suc h.0) x b (omega arith) refl h.1)
  once_step false x xs once rest = rest

  pub filter_once : (xs : List OutcomeAnswer) → ListOnce xs → ListOnce (filter p xs)
  filter_once [] once = once
  filter_once (x ∷ xs) once = once_step (p x) x xs once (filter_once xs (once_behind x xs once))

-- two places of answers with the same end are the same place
one_place : (xs : List OutcomeAnswer) → ListOnce xs → (i j : ℕ) (a b : OutcomeAnswer) → slice_get xs i ≡ Some a → slice_get xs j ≡ Some b →
    a.end ≡ b.end → i ≡ j
one_place xs once i j a b at bt same =
    elim (leb_tells i j) [
      | inl low ↦ elim (leb_tells j i) [
        | inl more ↦ (let here = low.1 in let there = more.1 in omega arith)
        | inr past ↦ absurd (once i j a b past.1 at bt same)
      ]
      | inr past ↦ absurd (once j i b a past.1 bt at (sym same))
    ]

-- ---- the exploration
abbrev pub is_short : ℕ → OutcomeAnswer → Bool
is_short entries a = leb (length a.schedule) entries

pub both_true : (a b : Bool) → (a && b) ≡ true → (a ≡ true) × (b ≡ true)
both_true true b h = (refl, h)
both_true false b h = absurd (cc)

pub one_false : (a b : Bool) → (a && b) ≡ false → (a ≡ false) ⊎ ((a ≡ true) × (b ≡ false))
one_false true b h = inr (refl, h)
one_false false b h = inl refl

module _ (code : Tree) (limits : Limits) (bounds : Bounds) (found kept : OutcomeExploration)
    (answers_are : kept.answers.items ≡ filter (is_short bounds.entries) found.answers.items)
    (complete_is : kept.complete ≡ (found.complete && (length kept.answers.items == length found.answers.items)))
  where
    -- if the exploration is complete, all answers are kept
    whole : kept.complete ≡ true → (found.complete ≡ true) × (found.answers.items ≡ kept.answers.items)
    whole complete =
        let h = both_true found.complete _ (sym complete_is ∙ complete) in
        let many = eqb-true (length kept.answers.items) (length found.answers.items) h.1 in
        (h.0, sym (answers_are ∙ filter_whole (is_short bounds.entries) found.answers.items (sym (ap length answers_are) ∙ many)))

    -- the end of an answer that is left out isn't among the others
    left_out : All (IsReached code limits) found.answers.items → ListOnce found.answers.items →
        length kept.answers.items ≢ length found.answers.items → IsPastEntries code limits bounds.entries kept.answers.items
    left_out each once fewer =
        let lost = filter_lost (is_short bounds.entries) found.answers.items (λ same. fewer (ap length answers_are ∙ same)) in
        record {
          answer = lost.1;
          reached = all_at (IsReached code limits) found.answers.items lost.0 lost.1 lost.2 each;
          long = leb-false (length lost.1.schedule) bounds.entries lost.3;
          unlisted = λ listed.
              let at = subst (λ l. slice_get l listed.0 ≡ Some listed.1) answers_are listed.2 in
              let there = filter_at (is_short bounds.entries) found.answers.items listed.0 listed.1 at in
              let place = one_place found.answers.items once there.0 lost.0 listed.1 lost.1 there.1 lost.2 listed.3 in
              let same : listed.1 ≡ lost.1 = same_Some listed.1 lost.1 (sym there.1 ∙ ap (slice_get found.answers.items) place ∙ lost.2) in
              let passes = ap (is_short bounds.entries) (sym same) ∙ there.2 in
              absurd (let fails = lost.3 in cc);
        }

    pub kept_is : (timed : Bool) → kept.halted ≡ found.halted → kept.worlds ≡ found.worlds → kept.bytes ≡ found.bytes →
        (found.complete ≡ true → (count : ℕ) (schedule : List ℕ) → IsCovered limits found.answers.items (core code (counted limits count) schedule)) →
        (found.complete ≡ true → (count : ℕ) (schedule : List ℕ) (w : World) → core code (counted limits count) schedule ≡ Ok w →
        IsSettled (counted limits count) w → IsListed found.answers.items (outcomes (Ok w))) →
        All (IsReached code limits) found.answers.items → ListOnce found.answers.items →
        (found.complete ≡ false → found.halted ≡ false → IsAtBound bounds found.worlds found.bytes) →
        (found.halted ≡ true → timed ≡ true) → found.worlds ≤ max bounds.worlds 1 → (found.complete ≡ true → found.bytes < bounds.memory) →
        IsOutcomesOf code limits bounds timed kept
    kept_is timed halted_is worlds_is bytes_is all settled each once stopped halted room spare = record {
      all = λ complete count schedule. let h = whole complete in
          subst (λ l. IsCovered limits l (core code (counted limits count) schedule)) h.1 (all h.0 count schedule);
      settled = λ complete count schedule w leads stays. let h = whole complete in
          subst (λ l. IsListed l (outcomes (Ok w))) h.1 (settled h.0 count schedule w leads stays);
      each = subst (All (IsReached code limits)) (sym answers_are) (All-filter (is_short bounds.entries) (IsReached code limits) found.answers.items each);
      once = subst ListOnce (sym answers_are) (filter_once (is_short bounds.entries) found.answers.items once);
      stopped = λ incomplete going.
          elim (one_false found.complete _ (sym complete_is ∙ incomplete)) [
            | inl part ↦ inl (rw worlds_is (rw bytes_is (stopped part (sym halted_is ∙ going))))
            | inr fewer ↦ inr (left_out each once (eqb-false _ _ fewer.1))
          ];
      halted = λ h. halted (sym halted_is ∙ h);
      room = rw worlds_is room;
      spare = λ complete. rw bytes_is (spare (whole complete).0);
      short = subst (All (λ a. length a.schedule ≤ bounds.entries)) (sym answers_are) (λ k d low.
          leb-true _ _ (filter_passes (is_short bounds.entries) found.answers.items k d low));
    }

    -- a property of all found answers holds for all kept ones
    pub kept_all : (P : OutcomeAnswer → Type 0) → All P found.answers.items → All P kept.answers.items
    kept_all P h = subst (All P) (sym answers_are) (All-filter (is_short bounds.entries) P found.answers.items h)
