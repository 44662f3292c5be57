-- Worlds that are filed in buckets.
use Rattle.std.proofs.Common.{◌≡◌, ◌≢◌, ℕ, ◌<◌, ◌%◌, ◌++◌, List, [], ◌∷◌, length, set, Some, Result, Ok, refl, sym, ap, ◌∙◌, subst, inl, inr}
use Rattle.std.{proofs.lemmas.{Option.{same_Some, slice_get_within}, List.length-set}, specs.List.slice_get}
use native.Mathlib.Decide.{ℕ_discrete}
use Rattle.std.specs.declared.alloc.Global.{Global}
use Rattle.std.specs.declared.vec.Vec.{Vec}
use mathlib.Core.Logic.{dite}
use Rattle.world_search.specs.{declared.{answers.Answer.Answer, graphs.Node.Node, landings.Landing.Landing}, Answers.{AreApart, IsAnswered, Tells}, Lists.IsIn}
use Rattle.world_search.specs.Private.{Listed.{Adds, IsNamed}, Told.{AreFiled, Files, IsFiled}}
use Rattle.world_search.proofs.{Lists.{get_end, get_last, get_low, got_none, more_in, set_other, set_same}, Answering.{adds_more, adds_named, named_more}}
use Rattle.world_search.specs.declared.landings.Landing.TheVariants as to

-- an end that is no world of this report
apart_from : {W R : Type 0} (report : W → R) (ws : List W) (l : Landing) (i : ℕ) →
    ((j : ℕ) → l ≡ to.World j → (v w : W) → slice_get ws j ≡ Some v → slice_get ws i ≡ Some w → report v ≢ report w) →
    AreApart report ws l (to.World i)
apart_from report ws (to.World j) i h = h j refl
apart_from report ws (to.Fault j) i h = tt

pub set_files : (bs : List (Vec ℕ Global)) (b x : ℕ) (old new : Vec ℕ Global) → slice_get bs b ≡ Some old → new.items ≡ old.items ++ x ∷ [] →
    Files bs (set bs b new) b x
set_files bs b x old new at is =
    let there : slice_get (set bs b new) b ≡ Some new = set_same bs b new (slice_get_within bs b old at) in
    record {
      many = length-set bs b new;
      here = (new, there, (length old.items, subst (λ (l : List ℕ). slice_get l (length old.items) ≡ Some x) (sym is) (get_last old.items x)));
      kept = λ c n h. dite (ℕ_discrete c b)
          (λ same.
          let vec : h.0 ≡ old = same_Some h.0 old (sym h.1 ∙ subst (λ i. slice_get bs i ≡ Some old) (sym same) at) in (
            new,
            subst (λ i. slice_get (set bs b new) i ≡ Some new) (sym same) there,
            more_in old.items new.items n (record { more = x ∷ []; is = sym is }) (subst (λ (v : Vec ℕ Global). IsIn n v.items) vec h.2),
          ))
          (λ apart. (h.0, set_other bs b c new apart ∙ h.1, h.2));
      only = λ c n h. dite (ℕ_discrete c b)
          (λ same.
          let vec : h.0 ≡ new = same_Some h.0 new (sym h.1 ∙ subst (λ i. slice_get (set bs b new) i ≡ Some new) (sym same) there) in
          let found : IsIn n new.items = subst (λ (v : Vec ℕ Global). IsIn n v.items) vec h.2 in
          elim (get_end old.items x n found.0 (subst (λ (l : List ℕ). slice_get l found.0 ≡ Some n) is found.1)) [
            | inl before ↦ inr (old, subst (λ i. slice_get bs i ≡ Some old) (sym same) at, (found.0, before))
            | inr last ↦ inl (sym last.1)
          ])
          (λ apart. inr (h.0, sym (set_other bs b c new apart) ∙ h.1, h.2));
    }

module _ {W R : Type 0} (digest : R → ℕ) (report : W → R) (ws : List W) where
  -- no answer, and no world in the buckets
  pub none_filed : (answers : List Answer) (bs : List (Vec ℕ Global)) → answers ≡ [] → ((b n : ℕ) → IsFiled bs b n → ⊥) →
      AreFiled digest report ws answers bs
  none_filed answers bs is none = record {
    each = λ k j a w at. absurd (got_none answers k a is at);
    only = λ b j h. absurd (none b j h);
  }

  -- an answer and its world are added
  pub adds_filed : (nodes : List Node) (last : Node) (j b : ℕ) (old new : List Answer) (bs bs' : List (Vec ℕ Global)) →
      Adds nodes last (to.World j) old new → AreFiled digest report ws old bs → Files bs bs' b j →
      ((w : W) → slice_get ws j ≡ Some w → b ≡ digest (report w) % length bs) → AreFiled digest report ws new bs'
  adds_filed nodes last j b old new bs bs' h filed files named = record {
    each = λ k i a w at is there. elim (get_end old h.answer a k (subst (λ (l : List Answer). slice_get l k ≡ Some a) h.is at)) [
      | inl before ↦ subst (λ m. IsFiled bs' (digest (report w) % m) i) (sym files.many) (files.kept _ i (filed.each k i a w before is there))
      | inr end ↦
          let same : to.World j ≡ to.World i = sym h.ends ∙ ap (λ (x : Answer). x.end) end.1 ∙ is in
          let number : j ≡ i = cc in
          let bucket : b ≡ digest (report w) % length bs = named w (subst (λ n. slice_get ws n ≡ Some w) (sym number) there) in
          subst (λ m. IsFiled bs' (digest (report w) % m) i) (sym files.many)
          (subst (λ c. IsFiled bs' c i) bucket (subst (λ n. IsFiled bs' b n) number files.here))
    ];
    only = λ c n at. elim (files.only c n at) [
      | inl is ↦ subst (λ m. IsNamed new (to.World m)) (sym is) (adds_named nodes last (to.World j) old new h)
      | inr before ↦ named_more old new (to.World n) (adds_more nodes last (to.World j) old new h) (filed.only c n before)
    ];
  }

  -- a world of the bucket has the report of the world i
  pub filed_answered : {E : Type 0} (step : W → ℕ → Result W E) (es : List E) (answers : List Answer) (bs : List (Vec ℕ Global)) (b j i : ℕ) (w : W) →
      AreFiled digest report ws answers bs → IsFiled bs b j → j < length ws → slice_get ws i ≡ Some w →
      ((v w : W) → slice_get ws j ≡ Some v → slice_get ws i ≡ Some w → report v ≡ report w) →
      IsAnswered step report ws es answers (Ok w)
  filed_answered step es answers bs b j i w filed at low there same =
      let named = filed.only b j at in
      let v = get_low ws j low in
      (named.0, named.1, subst (λ (l : Landing). Tells step report ws es l (Ok w)) (sym named.2) (v.0, v.1, same v.0 w v.1 there))

  -- no world of the bucket has the report of the world i
  pub filed_apart : (answers : List Answer) (bs : List (Vec ℕ Global)) (b i k : ℕ) (a : Answer) (v : Vec ℕ Global) → AreFiled digest report ws answers bs →
      slice_get bs b ≡ Some v → ((w : W) → slice_get ws i ≡ Some w → b ≡ digest (report w) % length bs) →
      ((n j : ℕ) (x w : W) → slice_get v.items n ≡ Some j → slice_get ws j ≡ Some x → slice_get ws i ≡ Some w → report x ≢ report w) →
      slice_get answers k ≡ Some a → AreApart report ws a.end (to.World i)
  filed_apart answers bs b i k a v filed here named none at = apart_from report ws a.end i (λ j is x w atj ati same.
      let found = filed.each k j a x at is atj in
      let bucket : digest (report x) % length bs ≡ b = ap (λ r. digest r % length bs) same ∙ sym (named w ati) in
      let there : slice_get bs b ≡ Some found.0 = subst (λ c. slice_get bs c ≡ Some found.0) bucket found.1 in
      let vec : found.0 ≡ v = same_Some found.0 v (sym there ∙ here) in
      none found.2.0 j x w (subst (λ (u : Vec ℕ Global). slice_get u.items found.2.0 ≡ Some j) vec found.2.1) atj ati same)
