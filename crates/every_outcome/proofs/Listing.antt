-- Answers that are listed one by one.
use Rattle.std.proofs.Common.{◌≡◌, inl, inr, ℕ, zero, suc, Bool, ◌+◌, List, [], ◌∷◌, ◌++◌, length, refl, sym, ap, ◌∙◌, subst, arith, append_assoc, append-nil}
use Rattle.std.{proofs.{Common.length-append, lemmas.Option.{same_Some, slice_get_within}}, specs.{Prelude.Some, List.{All, slice_get}}}
use Rattle.scheduled_core.proofs.Lists.{parted}
use Rattle.world_search.specs.declared.answers.Answer.{Answer as Found}
use Rattle.every_schedule.specs.declared.exploration.Answer.{Answer}
use Rattle.every_outcome.specs.{Places.{Kept, Place}, Private.Telling.{AreTold, IsTold, IsWithin}}
use Rattle.every_outcome.proofs.Told.{all_at}

-- the answers before the rest are listed
pub record SoFar (says : Bool) (kept : Kept) (first : Place) (all rest : List Found) (answers : List Answer) : Type 0 where
  pub before : List Found
  pub is : before ++ rest ≡ all
  pub told : AreTold says kept first before answers

one_alone : {A : Type 0} (x y : A) (j : ℕ) → slice_get (x ∷ []) j ≡ Some y → x ≡ y
one_alone x y zero e = same_Some x y e
one_alone x y (suc j) e = absurd (cc)

in_middle : {A : Type 0} (xs : List A) (x : A) (ys : List A) → slice_get (xs ++ x ∷ ys) (length xs) ≡ Some x
in_middle [] x ys = refl
in_middle (y ∷ xs) x ys = in_middle xs x ys

module _ (says : Bool) (kept : Kept) (first : Place) where
  told_more : (fs : List Found) (bs : List Answer) (f : Found) (a : Answer) → AreTold says kept first fs bs → IsTold says kept first f a →
      AreTold says kept first (fs ++ f ∷ []) (bs ++ a ∷ [])
  told_more fs bs f a told it = record {
    many = length-append bs (a ∷ []) ∙ ap (λ n. n + 1) told.many ∙ sym (length-append fs (f ∷ []));
    each = λ i g b e d. elim (parted fs (f ∷ []) i g e) [
      | inl early ↦
          let low = slice_get_within fs i g early in
          elim (parted bs (a ∷ []) i b d) [
            | inl soon ↦ told.each i g b early soon
            | inr late ↦ absurd (let is = late.1 in let many = told.many in omega arith)
          ]
      | inr late ↦
          elim (parted bs (a ∷ []) i b d) [
            | inl soon ↦ absurd (let low = slice_get_within bs i b soon in let is = late.1 in let many = told.many in omega arith)
            | inr last ↦
                subst (λ x. IsTold says kept first x b) (one_alone f g late.0 late.2)
                (subst (λ x. IsTold says kept first f x) (one_alone a b last.0 last.2) it)
          ]
    ];
  }

  pub told_next : (all rest : List Found) (bs : List Answer) (f : Found) (a : Answer) → SoFar says kept first all (f ∷ rest) bs → IsTold says kept first f a →
      SoFar says kept first all rest (bs ++ a ∷ [])
  told_next all rest bs f a far it = record {
    before = far.before ++ f ∷ [];
    is = append_assoc far.before (f ∷ []) rest ∙ far.is;
    told = told_more far.before bs f a far.told it;
  }

  pub all_told : (all : List Found) (bs : List Answer) → SoFar says kept first all [] bs → AreTold says kept first all bs
  all_told all bs far = subst (λ l. AreTold says kept first l bs) (sym (append-nil far.before) ∙ far.is) far.told

  -- the next answer is one of all
  pub next_within : (all rest : List Found) (bs : List Answer) (f : Found) → SoFar says kept first all (f ∷ rest) bs → All (λ a. IsWithin kept a.end) all →
      IsWithin kept f.end
  next_within all rest bs f far h =
      all_at (λ a. IsWithin kept a.end) all (length far.before) f (subst (λ l. slice_get l (length far.before) ≡ Some f) far.is (in_middle far.before f rest)) h
