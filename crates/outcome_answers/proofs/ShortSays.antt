-- An exploration of outcomes and says without the answers whose schedules are long.
use Rattle.std.proofs.Common.{◌≡◌, ◌≢◌, inl, inr, ℕ, zero, suc, ◌+◌, ◌<◌, ◌≤◌, ◌++◌, ◌==◌, ◌&&◌, Bool, true, false, cond, List, [], ◌∷◌, length}
use Rattle.std.proofs.{Common.{max, take, get_or, refl, sym, ap, ◌∙◌, subst, arith, Ok}, lemmas.Bool.{eqb-false, eqb-true, leb-false, leb-true, Decides.leb_tells}}
use Rattle.std.{proofs.lemmas.{List.Elements.{All-filter, filter_more, filter_passes}, Option.same_Some}, specs.{Prelude.Some, List.{All, filter, slice_get}}}
use Rattle.cell_registry.specs.declared.limits.Limits.{Limits}
use Rattle.derived_ops.specs.Tree.{Tree}
use Rattle.scheduled_core.specs.Core.{World, core}
use Rattle.scheduled_core.specs.Finals.{IsSettled}
use Rattle.world_search.specs.declared.answers.Bounds.{Bounds}
use Rattle.world_search.specs.Answers.{IsAtBound}
use Rattle.every_schedule.specs.{declared.exploration.{Answer.Answer, Exploration.Exploration}, Explored.{IsListed, ListOnce}}
use Rattle.every_outcome.specs.{Outcomes.counted, Reports.{IsReported, Reaches, reports}}
use Rattle.every_outcome.proofs.Filtered.{filter_whole}
use Rattle.every_outcome.proofs.Told.{all_at}
use Rattle.outcome_answers.specs.SaysFound.{IsPastSays, IsSaysOf, is_short, short_in}
use Rattle.outcome_answers.proofs.Shortened.{both_true, filter_at, filter_lost, one_false}

-- ---- the short answers, one after another
pub short_next : (entries : ℕ) (xs : List Answer) (i : ℕ) (d : Answer) (now next : List Answer) → i < length xs →
    next ≡ now ++ short_in entries (get_or xs i d ∷ []) → now ≡ short_in entries (take i xs) → next ≡ short_in entries (take (i + 1) xs)
short_next entries xs i d now next low more so_far =
    more
    ∙ ap (λ (l : List Answer). l ++ short_in entries (get_or xs i d ∷ [])) so_far
    ∙ sym (filter_more (is_short entries) xs i d low)

-- ---- answers without repetition
once_behind : (x : Answer) (xs : List Answer) → ListOnce (x ∷ xs) → ListOnce xs
once_behind x xs once = λ i j a b low at bt. once (suc i) (suc j) a b (omega arith) at bt

once_cons : (x : Answer) (ys : List Answer) → ListOnce ys → ((j : ℕ) (b : Answer) → slice_get ys j ≡ Some b → x.end ≢ b.end) →
    (i j : ℕ) (a b : Answer) → i < j → slice_get (x ∷ ys) i ≡ Some a → slice_get (x ∷ ys) j ≡ Some b → a.end ≢ b.end
once_cons x ys once other zero zero a b low at bt = absurd (omega arith)
once_cons x ys once other zero (suc j) a b low at bt =
    subst (λ (y : Answer). y.end ≢ b.end) (same_Some x a at) (other j b bt)
once_cons x ys once other (suc i) zero a b low at bt = absurd (omega arith)
once_cons x ys once other (suc i) (suc j) a b low at bt = once i j a b (omega arith) at bt

module _ (p : Answer → Bool) where
  once_step : (b : Bool) (x : Answer) (xs : List Answer) → ListOnce (x ∷ xs) → ListOnce (filter p xs) →
      ListOnce (cond b (x ∷ filter p xs) (filter p xs))
  once_step true x xs once rest =
      once_cons x (filter p xs) rest (λ j b bt. let h = filter_at p xs j b bt in once 0 (suc h.0) x b (omega arith) refl h.1)
  once_step false x xs once rest = rest

  pub filter_once : (xs : List Answer) → ListOnce xs → ListOnce (filter p xs)
  filter_once [] once = once
  filter_once (x ∷ xs) once = once_step (p x) x xs once (filter_once xs (once_behind x xs once))

-- two places of answers with the same end are the same place
one_place : (xs : List Answer) → ListOnce xs → (i j : ℕ) (a b : Answer) → slice_get xs i ≡ Some a → slice_get xs j ≡ Some b →
    a.end ≡ b.end → i ≡ j
one_place xs once i j a b at bt same =
    elim (leb_tells i j) [
      | inl low ↦ elim (leb_tells j i) [
        | inl more ↦ (let here = low.1 in let there = more.1 in omega arith)
        | inr past ↦ absurd (once i j a b past.1 at bt same)
      ]
      | inr past ↦ absurd (once j i b a past.1 bt at (sym same))
    ]

-- ---- the exploration
module _ (code : Tree) (limits : Limits) (bounds : Bounds) (found kept : Exploration)
    (answers_are : kept.answers ≡ short_in bounds.entries found.answers)
    (complete_is : kept.complete ≡ (found.complete && (length kept.answers == length found.answers)))
  where
    -- if the exploration is complete, all answers are kept
    whole : kept.complete ≡ true → (found.complete ≡ true) × (found.answers ≡ kept.answers)
    whole complete =
        let h = both_true found.complete _ (sym complete_is ∙ complete) in
        let many = eqb-true (length kept.answers) (length found.answers) h.1 in
        (h.0, sym (answers_are ∙ filter_whole (is_short bounds.entries) found.answers (sym (ap length answers_are) ∙ many)))

    -- the end of an answer that is left out isn't among the others
    left_out : All (Reaches true code limits) found.answers → ListOnce found.answers → length kept.answers ≢ length found.answers →
        IsPastSays code limits bounds.entries kept.answers
    left_out each once fewer =
        let lost = filter_lost (is_short bounds.entries) found.answers (λ same. fewer (ap length answers_are ∙ same)) in
        record {
          answer = lost.1;
          reached = all_at (Reaches true code limits) found.answers lost.0 lost.1 lost.2 each;
          long = leb-false (length lost.1.schedule) bounds.entries lost.3;
          unlisted = λ listed.
              let at = subst (λ l. slice_get l listed.0 ≡ Some listed.1) answers_are listed.2 in
              let there = filter_at (is_short bounds.entries) found.answers listed.0 listed.1 at in
              let place = one_place found.answers once there.0 lost.0 listed.1 lost.1 there.1 lost.2 listed.3 in
              let same : listed.1 ≡ lost.1 = same_Some listed.1 lost.1 (sym there.1 ∙ ap (slice_get found.answers) place ∙ lost.2) in
              let passes = ap (is_short bounds.entries) (sym same) ∙ there.2 in
              absurd (let fails = lost.3 in cc);
        }

    pub kept_is : (timed : Bool) → kept.halted ≡ found.halted → kept.worlds ≡ found.worlds → kept.bytes ≡ found.bytes →
        (found.complete ≡ true → (count : ℕ) (schedule : List ℕ) → IsReported true limits found.answers (core code (counted limits count) schedule)) →
        (found.complete ≡ true → (count : ℕ) (schedule : List ℕ) (w : World) → core code (counted limits count) schedule ≡ Ok w →
        IsSettled (counted limits count) w → IsListed found.answers (reports true (Ok w))) →
        All (Reaches true code limits) found.answers → ListOnce found.answers →
        (found.complete ≡ false → found.halted ≡ false → IsAtBound bounds found.worlds found.bytes) →
        (found.halted ≡ true → timed ≡ true) → found.worlds ≤ max bounds.worlds 1 → (found.complete ≡ true → found.bytes < bounds.memory) →
        IsSaysOf code limits bounds timed kept
    kept_is timed halted_is worlds_is bytes_is all settled each once stopped halted room spare = record {
      all = λ complete count schedule. let h = whole complete in
          subst (λ l. IsReported true limits l (core code (counted limits count) schedule)) h.1 (all h.0 count schedule);
      settled = λ complete count schedule w leads stays. let h = whole complete in
          subst (λ l. IsListed l (reports true (Ok w))) h.1 (settled h.0 count schedule w leads stays);
      each = subst (All (Reaches true code limits)) (sym answers_are) (All-filter (is_short bounds.entries) (Reaches true code limits) found.answers each);
      once = subst ListOnce (sym answers_are) (filter_once (is_short bounds.entries) found.answers once);
      stopped = λ incomplete going.
          elim (one_false found.complete _ (sym complete_is ∙ incomplete)) [
            | inl part ↦ inl (rw worlds_is (rw bytes_is (stopped part (sym halted_is ∙ going))))
            | inr fewer ↦ inr (left_out each once (eqb-false _ _ fewer.1))
          ];
      halted = λ h. halted (sym halted_is ∙ h);
      room = rw worlds_is room;
      spare = λ complete. rw bytes_is (spare (whole complete).0);
      short = subst (All (λ a. length a.schedule ≤ bounds.entries)) (sym answers_are) (λ k d low.
          leb-true _ _ (filter_passes (is_short bounds.entries) found.answers k d low));
    }

    -- a property of all found answers holds for all kept ones
    pub kept_all : (P : Answer → Type 0) → All P found.answers → All P kept.answers
    kept_all P h = subst (All P) (sym answers_are) (All-filter (is_short bounds.entries) P found.answers h)
