-- The tally of the schedules that were drawn, after one more.
use Rattle.std.proofs.Common.{◌≡◌, ◌≢◌, ◌⊎◌, inl, inr, ℕ, zero, suc, ◌+◌, ◌<◌, ◌≤◌, List, [], ◌∷◌, ◌++◌, length, set, get_or, Bool, true, false, Result, refl}
use Rattle.std.proofs.{Common.{sym, ap, ◌∙◌, subst, arith}, lemmas.{Option.{get_or_from_slice_get, same_Some, slice_get_within}, List.Elements.All-push}}
use Rattle.std.{proofs.lemmas.List.{Elements.All-same, Sums.{get_or-le-sum_by, sum_by-set, sum_by_push}}, specs.{Prelude.{Some, ◌&&◌}, List.{All, slice_get}}}
use Rattle.std.specs.List.{sum_by}
use mathlib.Core.Logic.{dite}
use native.Mathlib.Decide.{ℕ_discrete}
use Rattle.cell_registry.specs.declared.limits.RunError.{RunError}
use Rattle.scheduled_core.{specs.declared.report.Report.Report, proofs.Lists.{parted, slice_get-set_other, slice_get-set_same}}
use Rattle.every_schedule.{specs.declared.exploration.Answer.Answer, proofs.Told.{all_at, all_from}}
use Rattle.sampled_schedules.specs.{declared.comings.{Coming.Coming, Drawn.Drawn}, Sampled.{AllCut, EndSo, IsFirst, IsTally, IsTold, SomeUncut, another, none}}
use Rattle.sampled_schedules.specs.{Sampled.one_more, Private.Noting.{Again, First, IsNoted, came_in_all, coming_of, raised}}

-- ---- the number of schedules
raises : (cs : List Coming) (i : ℕ) (c : Coming) (cut : Bool) → slice_get cs i ≡ Some c → came_in_all (set cs i (raised c cut)) ≡ came_in_all cs + 1
raises cs i c cut at =
    let times : Coming → ℕ = λ (x : Coming). x.times in
    let is : get_or cs i c ≡ c = get_or_from_slice_get cs i c c at in
    let more : sum_by times (set cs i (raised c cut)) + times (get_or cs i c) ≡ sum_by times cs + times (raised c cut) =
    sum_by-set times cs i (raised c cut) c (slice_get_within cs i c at) in
    let here : times (get_or cs i c) ≡ c.times = ap times is in
    omega arith

pub counted : (cs : List Coming) (a : Drawn) (ds : List Coming) → IsNoted cs a ds → came_in_all ds ≡ came_in_all cs + 1
counted cs a ds (Again i c at same is) = ap came_in_all is ∙ raises cs i c a.cut at
counted cs a ds (First new is) = ap came_in_all is ∙ sum_by_push (λ (x : Coming). x.times) cs (coming_of a)

pub one_of : (cs : List Coming) (i : ℕ) (c : Coming) → slice_get cs i ≡ Some c → c.times ≤ came_in_all cs
one_of cs i c at =
    let times : Coming → ℕ = λ (x : Coming). x.times in
    subst (λ (x : Coming). x.times ≤ came_in_all cs) (get_or_from_slice_get cs i c c at) (get_or-le-sum_by times cs i c (slice_get_within cs i c at))

-- ---- a coming after one more answer is one of those before, or the new one
alone : {A : Type 0} (x y : A) (j : ℕ) → slice_get (x ∷ []) j ≡ Some y → x ≡ y
alone x y zero e = same_Some x y e
alone x y (suc j) e = absurd (cc)

alone_at : {A : Type 0} (x y : A) (j : ℕ) → slice_get (x ∷ []) j ≡ Some y → j ≡ 0
alone_at x y zero e = refl
alone_at x y (suc j) e = absurd (cc)

last : {A : Type 0} (xs : List A) (x : A) → slice_get (xs ++ x ∷ []) (length xs) ≡ Some x
last [] x = refl
last (y ∷ xs) x = last xs x

sooner : {A : Type 0} (xs ys : List A) (i : ℕ) (x : A) → slice_get xs i ≡ Some x → slice_get (xs ++ ys) i ≡ Some x
sooner [] ys i x e = absurd (cc)
sooner (y ∷ xs) ys zero x e = e
sooner (y ∷ xs) ys (suc i) x e = sooner xs ys i x e

-- a property of the answers
pub all_noted : (P : Answer → Type 0) (cs : List Coming) (a : Drawn) (ds : List Coming) → IsNoted cs a ds → All (λ (c : Coming). P c.answer) cs →
    P a.answer → All (λ (c : Coming). P c.answer) ds
all_noted P cs a ds (Again i c at same is) h p = all_from (λ (c : Coming). P c.answer) ds (λ j b e.
    let e' : slice_get (set cs i (raised c a.cut)) j ≡ Some b = subst (λ (l : List Coming). slice_get l j ≡ Some b) is e in
    dite (ℕ_discrete i j)
    (λ it.
    let b_is : raised c a.cut ≡ b =
    same_Some (raised c a.cut) b
    (sym (slice_get-set_same cs i c (raised c a.cut) at) ∙ subst (λ n. slice_get (set cs i (raised c a.cut)) n ≡ Some b) (sym it) e') in
    subst (λ (x : Coming). P x.answer) b_is (all_at (λ (c : Coming). P c.answer) cs i c at h))
    (λ apart. all_at (λ (c : Coming). P c.answer) cs j b (sym (slice_get-set_other cs i j (raised c a.cut) apart) ∙ e') h))
all_noted P cs a ds (First new is) h p =
    All-same (λ (c : Coming). P c.answer) ds (cs ++ coming_of a ∷ []) is
    (All-push (λ (c : Coming). P c.answer) cs (coming_of a) h p)

-- ---- the tally
further : (drawn : List Drawn) (a : Drawn) (b : Answer) (place i : ℕ) (x : Drawn) →
    ((j : ℕ) (y : Drawn) → place < j → slice_get drawn j ≡ Some y → y.answer.end ≢ b.end) → suc place < i → slice_get (a ∷ drawn) i ≡ Some x →
    x.answer.end ≢ b.end
further drawn a b place zero x earlier low e = absurd (omega arith)
further drawn a b place (suc i) x earlier low e = earlier i x (omega arith) e

-- the first schedule with an end stays the first
first_yet : (drawn : List Drawn) (a : Drawn) (b : Answer) → IsFirst drawn b → IsFirst (a ∷ drawn) b
first_yet drawn a b f = record {
  place = suc f.place;
  one = f.one;
  here = f.here;
  answer = f.answer;
  earlier = λ i x low e. further drawn a b f.place i x f.earlier low e;
}

-- no schedule that was drawn has the same end as `a`
abbrev NoneSo : List Drawn → Drawn → Type 0
NoneSo drawn a = (i : ℕ) (x : Drawn) → slice_get drawn i ≡ Some x → x.answer.end ≢ a.answer.end

past : (drawn : List Drawn) (a : Drawn) → NoneSo drawn a → (i : ℕ) (x : Drawn) → 0 < i → slice_get (a ∷ drawn) i ≡ Some x →
    x.answer.end ≢ a.answer.end
past drawn a others zero x low e = absurd (omega arith)
past drawn a others (suc i) x low e = others i x e

-- the last schedule is the first with its end, if no earlier one has this end
first_now : (drawn : List Drawn) (a : Drawn) → NoneSo drawn a → IsFirst (a ∷ drawn) a.answer
first_now drawn a others = record { place = 0; one = a; here = refl; answer = refl; earlier = λ i x low e. past drawn a others i x low e }

-- none of these schedules has this end
none_so : (end : Result Report RunError) (drawn : List Drawn) → ((i : ℕ) (x : Drawn) → slice_get drawn i ≡ Some x → x.answer.end ≢ end) →
    EndSo end drawn 0
none_so end [] h = none
none_so end (x ∷ drawn) h = another x drawn 0 (h 0 x refl) (none_so end drawn (λ i y e. h (suc i) y e))

-- the ends of these schedules and of the last one are in the tally
told_all : (drawn : List Drawn) (a : Drawn) (ds : List Coming) → ((i : ℕ) (x : Drawn) → slice_get drawn i ≡ Some x → IsTold ds x.answer.end) →
    IsTold ds a.answer.end → (i : ℕ) (x : Drawn) → slice_get (a ∷ drawn) i ≡ Some x → IsTold ds x.answer.end
told_all drawn a ds before now zero x e = subst (λ (y : Drawn). IsTold ds y.answer.end) (same_Some a x e) now
told_all drawn a ds before now (suc i) x e = before i x e

-- ---- whether all schedules with an end were cut short
-- all schedules with this end were, and the last one was if it has this end
cut_yet : (drawn : List Drawn) (a : Drawn) (end : Result Report RunError) → AllCut drawn end → (a.answer.end ≡ end → a.cut ≡ true) →
    (i : ℕ) (x : Drawn) → slice_get (a ∷ drawn) i ≡ Some x → x.answer.end ≡ end → x.cut ≡ true
cut_yet drawn a end before now zero x e q =
    let is : a ≡ x = same_Some a x e in
    sym (ap (λ (d : Drawn). d.cut) is) ∙ now (ap (λ (d : Drawn). d.answer.end) is ∙ q)
cut_yet drawn a end before now (suc i) x e q = before i x e q

uncut_yet : (drawn : List Drawn) (a : Drawn) (end : Result Report RunError) → SomeUncut drawn end → SomeUncut (a ∷ drawn) end
uncut_yet drawn a end h = (suc h.0, h.1, h.2, h.3, h.4)

both_cut : (x y : Bool) → x && y ≡ true → (x ≡ true) × (y ≡ true)
both_cut true true q = (refl, refl)
both_cut true false q = absurd (cc)
both_cut false y q = absurd (cc)

one_uncut : (x y : Bool) → x && y ≡ false → (x ≡ false) ⊎ (y ≡ false)
one_uncut true true q = absurd (cc)
one_uncut true false q = inr refl
one_uncut false y q = inl refl

-- ---- an end that came again
module _ (drawn : List Drawn) (cs : List Coming) (a : Drawn) (tally : IsTally drawn cs) (i : ℕ) (c : Coming) (at : slice_get cs i ≡ Some c)
    (same : c.answer.end ≡ a.answer.end) where
  abbrev more : Coming
  more = raised c a.cut

  abbrev now : List Coming
  now = set cs i more

  here : slice_get now i ≡ Some more
  here = slice_get-set_same cs i c more at

  -- a coming is the one that was raised, or another of those before
  which : (j : ℕ) (b : Coming) → slice_get now j ≡ Some b → ((i ≡ j) × (more ≡ b)) ⊎ ((i ≢ j) × (slice_get cs j ≡ Some b))
  which j b e = dite (ℕ_discrete i j)
      (λ it. inl (it, same_Some more b (sym here ∙ subst (λ n. slice_get now n ≡ Some b) (sym it) e)))
      (λ apart. inr (apart, sym (slice_get-set_other cs i j more apart) ∙ e))

  -- one of the comings before has the answer of this coming
  before : (j : ℕ) (b : Coming) → slice_get now j ≡ Some b → (d : Coming) × (slice_get cs j ≡ Some d) × (d.answer ≡ b.answer)
  before j b e = elim (which j b e) [
    | inl it ↦ (c, subst (λ n. slice_get cs n ≡ Some c) it.0 at, ap (λ (x : Coming). x.answer) it.1)
    | inr it ↦ (b, it.1, refl)
  ]

  still_told : (end : Result Report RunError) → IsTold cs end → IsTold now end
  still_told end h = dite (ℕ_discrete i h.0)
      (λ it.
      let c_is : c ≡ h.1 = same_Some c h.1 (sym at ∙ subst (λ n. slice_get cs n ≡ Some h.1) (sym it) h.2) in
      (i, more, here, ap (λ (x : Coming). x.answer.end) c_is ∙ h.3))
      (λ apart. (h.0, h.1, slice_get-set_other cs i h.0 more apart ∙ h.2, h.3))

  count_now : (j : ℕ) (b : Coming) → slice_get now j ≡ Some b → EndSo b.answer.end (a ∷ drawn) b.times
  count_now j b e = elim (which j b e) [
    | inl it ↦ subst (λ (x : Coming). EndSo x.answer.end (a ∷ drawn) x.times) it.1 (one_more a drawn c.times (sym same) (tally.counts i c at))
    | inr it ↦ another a drawn b.times (λ q. it.0 (tally.once i j c b at it.1 (same ∙ q))) (tally.counts j b it.1)
  ]

  cut_now : (j : ℕ) (b : Coming) → slice_get now j ≡ Some b → b.cut ≡ true → AllCut (a ∷ drawn) b.answer.end
  cut_now j b e q = elim (which j b e) [
    | inl it ↦
        let two = both_cut c.cut a.cut (ap (λ (x : Coming). x.cut) it.1 ∙ q) in
        subst (λ (x : Coming). AllCut (a ∷ drawn) x.answer.end) it.1 (cut_yet drawn a c.answer.end (tally.cut i c at two.0) (λ _. two.1))
    | inr it ↦ cut_yet drawn a b.answer.end (tally.cut j b it.1 q) (λ p. absurd (it.0 (tally.once i j c b at it.1 (same ∙ p))))
  ]

  uncut_now : (j : ℕ) (b : Coming) → slice_get now j ≡ Some b → b.cut ≡ false → SomeUncut (a ∷ drawn) b.answer.end
  uncut_now j b e q = elim (which j b e) [
    | inl it ↦ subst (λ (x : Coming). SomeUncut (a ∷ drawn) x.answer.end) it.1
        (elim (one_uncut c.cut a.cut (ap (λ (x : Coming). x.cut) it.1 ∙ q)) [
          | inl old ↦ uncut_yet drawn a c.answer.end (tally.uncut i c at old)
          | inr new ↦ (0, a, refl, sym same, new)
        ])
    | inr it ↦ uncut_yet drawn a b.answer.end (tally.uncut j b it.1 q)
  ]

  again : IsTally (a ∷ drawn) now
  again = record {
    all = told_all drawn a now (λ j x e. still_told x.answer.end (tally.all j x e)) (i, more, here, same);
    once = λ j l b d eb ed q.
        let b' = before j b eb in
        let d' = before l d ed in
        tally.once j l b'.0 d'.0 b'.1 d'.1 (ap (λ (x : Answer). x.end) b'.2 ∙ q ∙ sym (ap (λ (x : Answer). x.end) d'.2));
    firsts = λ j b e.
        let b' = before j b e in
        subst (λ (x : Answer). IsFirst (a ∷ drawn) x) b'.2 (first_yet drawn a b'.0.answer (tally.firsts j b'.0 b'.1));
    counts = count_now;
    cut = cut_now;
    uncut = uncut_now;
  }

-- ---- an end that is new
module _ (drawn : List Drawn) (cs : List Coming) (a : Drawn) (tally : IsTally drawn cs) (new : (i : ℕ) (c : Coming) → slice_get cs i ≡ Some c →
    c.answer.end ≢ a.answer.end) where
  abbrev one : Coming
  one = coming_of a

  abbrev longer : List Coming
  longer = cs ++ one ∷ []

  -- a coming is one of those before, or the new one
  whose : (j : ℕ) (b : Coming) → slice_get longer j ≡ Some b → (slice_get cs j ≡ Some b) ⊎ ((j ≡ length cs) × (one ≡ b))
  whose j b e = elim (parted cs (one ∷ []) j b e) [
    | inl h ↦ inl h
    | inr h ↦ inr (let zero_is = alone_at one b h.0 h.2 in let is = h.1 in omega arith, alone one b h.0 h.2)
  ]

  -- no answer that was drawn has this end
  others : (i : ℕ) (x : Drawn) → slice_get drawn i ≡ Some x → x.answer.end ≢ a.answer.end
  others i x e = λ q. let h = tally.all i x e in new h.0 h.1 h.2 (h.3 ∙ q)

  once_now : (j l : ℕ) (b d : Coming) → slice_get longer j ≡ Some b → slice_get longer l ≡ Some d → b.answer.end ≡ d.answer.end → j ≡ l
  once_now j l b d eb ed q = elim (whose j b eb) [
    | inl hb ↦ elim (whose l d ed) [
      | inl hd ↦ tally.once j l b d hb hd q
      | inr hd ↦ absurd (new j b hb (q ∙ sym (ap (λ (x : Coming). x.answer.end) hd.1)))
    ]
    | inr hb ↦ elim (whose l d ed) [
      | inl hd ↦ absurd (new l d hd (sym q ∙ sym (ap (λ (x : Coming). x.answer.end) hb.1)))
      | inr hd ↦ hb.0 ∙ sym hd.0
    ]
  ]

  cut_first : (j : ℕ) (b : Coming) → slice_get longer j ≡ Some b → b.cut ≡ true → AllCut (a ∷ drawn) b.answer.end
  cut_first j b e q = elim (whose j b e) [
    | inl h ↦ cut_yet drawn a b.answer.end (tally.cut j b h q) (λ p. absurd (new j b h (sym p)))
    | inr h ↦ subst (λ (x : Coming). AllCut (a ∷ drawn) x.answer.end) h.1
        (cut_yet drawn a a.answer.end (λ i x at p. absurd (others i x at p)) (λ _. ap (λ (x : Coming). x.cut) h.1 ∙ q))
  ]

  uncut_first : (j : ℕ) (b : Coming) → slice_get longer j ≡ Some b → b.cut ≡ false → SomeUncut (a ∷ drawn) b.answer.end
  uncut_first j b e q = elim (whose j b e) [
    | inl h ↦ uncut_yet drawn a b.answer.end (tally.uncut j b h q)
    | inr h ↦ (0, a, refl, ap (λ (x : Coming). x.answer.end) h.1, ap (λ (x : Coming). x.cut) h.1 ∙ q)
  ]

  fresh : IsTally (a ∷ drawn) longer
  fresh = record {
    all = told_all drawn a longer
        (λ j x e. let h = tally.all j x e in (h.0, h.1, sooner cs (one ∷ []) h.0 h.1 h.2, h.3))
        (length cs, one, last cs one, refl);
    once = once_now;
    firsts = λ j b e. elim (whose j b e) [
      | inl h ↦ first_yet drawn a b.answer (tally.firsts j b h)
      | inr h ↦ subst (λ (x : Coming). IsFirst (a ∷ drawn) x.answer) h.1 (first_now drawn a others)
    ];
    counts = λ j b e. elim (whose j b e) [
      | inl h ↦ another a drawn b.times (λ q. new j b h (sym q)) (tally.counts j b h)
      | inr h ↦ subst (λ (x : Coming). EndSo x.answer.end (a ∷ drawn) x.times) h.1 (one_more a drawn 0 refl (none_so a.answer.end drawn others))
    ];
    cut = cut_first;
    uncut = uncut_first;
  }

pub tallied : (drawn : List Drawn) (cs : List Coming) (a : Drawn) (ds : List Coming) → IsTally drawn cs → IsNoted cs a ds → IsTally (a ∷ drawn) ds
tallied drawn cs a ds tally (Again i c at same is) = subst (IsTally (a ∷ drawn)) (sym is) (again drawn cs a tally i c at same)
tallied drawn cs a ds tally (First new is) = subst (IsTally (a ∷ drawn)) (sym is) (fresh drawn cs a tally new)

pub nothing_tallied : IsTally [] []
nothing_tallied = record {
  all = λ i a e. absurd (cc);
  once = λ i j b c e d q. absurd (cc);
  firsts = λ i c e. absurd (cc);
  counts = λ i c e. absurd (cc);
  cut = λ i c e q. absurd (cc);
  uncut = λ i c e q. absurd (cc);
}
