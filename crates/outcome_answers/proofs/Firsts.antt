-- One answer for each outcome of fiber 0, one answer at a time.
use Rattle.std.proofs.Common.{◌≡◌, ◌≢◌, inl, inr, ℕ, zero, suc, ◌+◌, ◌<◌, ◌≤◌, true, List, [], ◌∷◌, ◌++◌, length, get_or, refl, sym, ap, ◌∙◌, subst, arith}
use Rattle.std.{proofs.lemmas.{Bool.Decides.leb_tells, Option.{same_Some, slice_get_read, slice_get_within}}, specs.{Prelude.{Result, Some}, List.slice_get}}
use Rattle.cell_registry.specs.declared.limits.RunError.{RunError}
use Rattle.scheduled_core.{specs.declared.report.Report.Report, proofs.Lists.parted}
use Rattle.every_schedule.specs.{declared.exploration.Answer.Answer, Explored.{IsListed, ListOnce}}
use Rattle.every_outcome.specs.declared.outcomes.OutcomeAnswer.{OutcomeAnswer}
use Rattle.outcome_answers.specs.OutcomesShown.{AreFirsts, shown_answer, shown_end}

-- the same for the first `n` answers
pub record SoFar (answers : List OutcomeAnswer) (n : ℕ) (shown : List Answer) : Type 0 where
  pub covers : (i : ℕ) (a : OutcomeAnswer) → i < n → slice_get answers i ≡ Some a → IsListed shown (shown_end true a.end)
  pub among : (j : ℕ) (s : Answer) → slice_get shown j ≡ Some s →
      (i : ℕ) × (a : OutcomeAnswer) × (slice_get answers i ≡ Some a) × (s ≡ shown_answer true a) ×
      ((k : ℕ) (b : OutcomeAnswer) → k < i → slice_get answers k ≡ Some b → shown_end true b.end ≢ s.end)
  pub once : ListOnce shown

front_kept : {A : Type 0} (xs ys : List A) (i : ℕ) (x : A) → slice_get xs i ≡ Some x → slice_get (xs ++ ys) i ≡ Some x
front_kept [] ys i x e = absurd (cc)
front_kept (y ∷ xs) ys zero x e = e
front_kept (y ∷ xs) ys (suc i) x e = front_kept xs ys i x e

at_end : {A : Type 0} (xs : List A) (x : A) → slice_get (xs ++ x ∷ []) (length xs) ≡ Some x
at_end [] x = refl
at_end (y ∷ xs) x = at_end xs x

one_alone : {A : Type 0} (x y : A) (j : ℕ) → slice_get (x ∷ []) j ≡ Some y → x ≡ y
one_alone x y zero e = same_Some x y e
one_alone x y (suc j) e = absurd (cc)

none_behind : {A : Type 0} (x y : A) (j : ℕ) → slice_get (x ∷ []) j ≡ Some y → j ≡ 0
none_behind x y zero e = refl
none_behind x y (suc j) e = absurd (cc)

listed_more : (shown : List Answer) (s : Answer) (end : Result Report RunError) → IsListed shown end → IsListed (shown ++ s ∷ []) end
listed_more shown s end h = (h.0, h.1, front_kept shown (s ∷ []) h.0 h.1 h.2, h.3)

once_more : (shown : List Answer) (s : Answer) → ListOnce shown → (IsListed shown s.end → ⊥) → ListOnce (shown ++ s ∷ [])
once_more shown s once other = λ i j a b low at bt.
    elim (parted shown (s ∷ []) j b bt) [
      | inl soon ↦ elim (parted shown (s ∷ []) i a at) [
        | inl early ↦ once i j a b low early soon
        | inr late ↦ absurd (let past = late.1 in let within = slice_get_within shown j b soon in omega arith)
      ]
      | inr last ↦ elim (parted shown (s ∷ []) i a at) [
        | inl early ↦ λ same. other (i, a, early, same ∙ ap (λ (x : Answer). x.end) (sym (one_alone s b last.0 last.2)))
        | inr late ↦ absurd (let here = none_behind s b last.0 last.2 in let there = late.1 in let end = last.1 in omega arith)
      ]
    ]

module _ (answers : List OutcomeAnswer) (n : ℕ) (a : OutcomeAnswer) (low : n < length answers) (here : a ≡ get_or answers n a) where
  there : slice_get answers n ≡ Some a
  there = slice_get_read answers (length answers) n a refl low here

  covered : (shown : List Answer) → IsListed shown (shown_end true a.end) →
      ((i : ℕ) (b : OutcomeAnswer) → i < n → slice_get answers i ≡ Some b → IsListed shown (shown_end true b.end)) →
      (i : ℕ) (b : OutcomeAnswer) → i < n + 1 → slice_get answers i ≡ Some b → IsListed shown (shown_end true b.end)
  covered shown listed before i b within at =
      elim (leb_tells n i) [
        | inl past ↦
            let reached = past.1 in
            let last : n ≡ i = omega arith in
            let same : a ≡ b = same_Some a b (sym there ∙ ap (slice_get answers) last ∙ at) in
            subst (λ (x : OutcomeAnswer). IsListed shown (shown_end true x.end)) same listed
        | inr early ↦ before i b early.1 at
      ]

  -- an answer whose end is listed already
  pub firsts_same : (shown new : List Answer) → new ≡ shown → IsListed shown (shown_end true a.end) → SoFar answers n shown → SoFar answers (n + 1) new
  firsts_same shown new is listed far = subst (SoFar answers (n + 1)) (sym is) record {
    covers = covered shown listed far.covers;
    among = far.among;
    once = far.once;
  }

  -- an answer whose end isn't listed yet
  pub firsts_more : (shown new : List Answer) (s : Answer) → new ≡ shown ++ s ∷ [] → s ≡ shown_answer true a → (IsListed shown s.end → ⊥) →
      SoFar answers n shown → SoFar answers (n + 1) new
  firsts_more shown new s is made other far = subst (SoFar answers (n + 1)) (sym is) record {
    covers = covered (shown ++ s ∷ []) (length shown, s, at_end shown s, ap (λ (x : Answer). x.end) made)
        (λ i b early at. listed_more shown s (shown_end true b.end) (far.covers i b early at));
    among = λ j t at. elim (parted shown (s ∷ []) j t at) [
      | inl early ↦ far.among j t early
      | inr late ↦
          let is_last = one_alone s t late.0 late.2 in (
            n,
            a,
            there,
            sym is_last ∙ made,
            λ k b before bt same.
                let h = far.covers k b before bt in
                other (h.0, h.1, h.2, h.3 ∙ same ∙ ap (λ (x : Answer). x.end) (sym is_last)),
          )
    ];
    once = once_more shown s far.once other;
  }

pub firsts_all : (answers : List OutcomeAnswer) (n : ℕ) (shown : List Answer) → length answers ≤ n → SoFar answers n shown → AreFirsts answers shown
firsts_all answers n shown past far = record {
  covers = λ i a at. let low = slice_get_within answers i a at in far.covers i a (omega arith) at;
  among = far.among;
  once = far.once;
}
