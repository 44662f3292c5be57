-- Trails that get longer, and the unfolded answers of the reduced search.
use Rattle.std.proofs.Common.{◌≡◌, ◌≢◌, ◌⊎◌, inl, inr, ℕ, suc, ◌+◌, ◌<◌, ◌≤◌, List, [], ◌∷◌, ◌++◌, length, Some, Result, Ok, Err, refl, sym, ap, ◌∙◌, subst}
use Rattle.std.proofs.{Common.{arith, append-nil, append_assoc, get_or}, lemmas.List.{Elements.All-push, Edits.{length-swap, swapped_from_swap}}}
use Rattle.std.proofs.lemmas.{List.Sorted.{All-permutation, IsPermutation-keeps, IsPermutation-sym}, Bool.cases_order, Option.get_or_from_slice_get}
use Rattle.std.{proofs.lemmas.Option.{same_Some, slice_get-get_or, slice_get_past, slice_get_within}, specs.List.{All, slice_get, swap}}
use Rattle.std.specs.List.Sorted.{IsNonDecreasingBy, IsPermutation}
use mathlib.Core.Logic.{dite}
use native.Mathlib.Decide.{ℕ_discrete}
use Rattle.cell_registry.specs.declared.limits.RunError.{RunError}
use Rattle.scheduled_core.proofs.Lists.{parted}
use Rattle.world_search.{specs.{declared.{answers.Answer.Answer as Found, landings.Landing.Landing}, Lists.IsIn, Systems.run}, proofs.Closed.run-append}
use Rattle.world_search.proofs.{Lists.{get_end, get_last, more_by, more_in}, Free.{covers, goes_onward, leads_up}}
use Rattle.every_schedule.specs.{Places.{Kept, Place, report_at, stepped}, declared.leaping.AtOnce.AtOnce, Reduced.{IsMade, leapt}, Explored.HasMove}
use Rattle.every_schedule.specs.Private.Trails.{AreMade, AreSorted, AreUnfolded, EndApart, EndsAlone, IsFirstOf, IsKeptIn, IsLeapTrail, IsOwnTrail, IsTrail}
use Rattle.every_schedule.{specs.Private.Trails.{IsUnfolded, IsUnfoldedOf, MakesAtOnce, rank_of}, proofs.Bare.{reports_grow, unborn_stays}}
use Rattle.every_schedule.{specs.Persistent.chosen, proofs.{Chosen.chosen_reduces, Growing.size, Leaps.leapt_rests, Told.{all_at, all_from}}}
use Rattle.fair_ends.{specs.Fair.IsBehind, proofs.Ahead.{led_append, led_run}}
use Rattle.world_search.specs.declared.landings.Landing.TheVariants as to
use Rattle.world_search.specs.Answers as search

-- ---- numbers
abbrev AreFew : List ℕ → Type 0
AreFew fs = All (λ f. f < 1000) fs

none_few : AreFew []
none_few = λ k d low. absurd (omega arith)

few_append : (xs ys : List ℕ) → AreFew xs → AreFew ys → AreFew (xs ++ ys)
few_append xs ys a b = all_from (λ f. f < 1000) (xs ++ ys) (λ i x e. elim (parted xs ys i x e) [
  | inl h ↦ all_at (λ f. f < 1000) xs i x h a
  | inr h ↦ all_at (λ f. f < 1000) ys h.0 x h.2 b
])

-- ---- trails
pub trail_none : (old : List ℕ) (p : Place) → IsTrail old old p (Ok p)
trail_none old p = record { added = []; is = sym (append-nil old); leads = refl; few = none_few; moves = tt }

pub trail_one : (old : List ℕ) (p : Place) (f : ℕ) (y : Result Place RunError) → f < 1000 → HasMove p.world f → stepped p f ≡ y →
    IsTrail old (old ++ f ∷ []) p y
trail_one old p f y low has e = record {
  added = f ∷ [];
  is = refl;
  leads = e;
  few = All-push (λ g. g < 1000) [] f none_few low;
  moves = (has, λ q led. tt);
}

made_append : (p q : Place) (a b : List ℕ) → AreMade p a → run stepped (Ok p) a ≡ Ok q → AreMade q b → AreMade p (a ++ b)
made_append p q [] b h leads rest = let same : p ≡ q = cc in subst (λ x. AreMade x b) (sym same) rest
made_append p q (f ∷ a) b h leads rest =
    (h.0, λ r e. made_append r q a b (h.1 r e) (ap (λ x. run stepped x a) (sym e) ∙ leads) rest)

pub trail_more : (old mid new : List ℕ) (p q : Place) (y : Result Place RunError) → IsTrail old mid p (Ok q) → IsTrail mid new q y → IsTrail old new p y
trail_more old mid new p q y a b = record {
  added = a.added ++ b.added;
  is = b.is ∙ ap (λ l. l ++ b.added) a.is ∙ append_assoc old a.added b.added;
  leads = run-append stepped (Ok p) a.added b.added ∙ ap (λ x. run stepped x b.added) a.leads ∙ b.leads;
  few = few_append a.added b.added a.few b.few;
  moves = made_append p q a.added b.added a.moves a.leads b.moves;
}

-- ---- own moves
pub own_none : (m : AtOnce) (old : List ℕ) (p : Place) → IsOwnTrail m old old p p
own_none m old p = record { added = []; is = sym (append-nil old); led = refl; few = none_few; moves = tt }

pub own_one : (m : AtOnce) (old : List ℕ) (p : Place) (f : ℕ) (q : Place) → f < 1000 → HasMove p.world f → IsMade m p f → stepped p f ≡ Ok q →
    IsOwnTrail m old (old ++ f ∷ []) p q
own_one m old p f q low has may goes = record {
  added = f ∷ [];
  is = refl;
  led = (may, q, goes, refl);
  few = All-push (λ g. g < 1000) [] f none_few low;
  moves = (has, λ x led. tt);
}

pub own_more : (m : AtOnce) (old mid new : List ℕ) (p q r : Place) → IsOwnTrail m old mid p q → IsOwnTrail m mid new q r →
    IsOwnTrail m old new p r
own_more m old mid new p q r a b = record {
  added = a.added ++ b.added;
  is = b.is ∙ ap (λ l. l ++ b.added) a.is ∙ append_assoc old a.added b.added;
  led = led_append stepped (IsMade m) a.added b.added p q r a.led b.led;
  few = few_append a.added b.added a.few b.few;
  moves = made_append p q a.added b.added a.moves (led_run stepped (IsMade m) a.added p q a.led) b.moves;
}

-- ---- an entry followed by own moves
module _ (n : AtOnce) (p : Place) (f : ℕ) where
  abbrev Behind : List ℕ → Result Place RunError → Type 0
  Behind made y = IsBehind stepped (IsMade n) made y (leapt n p f)

  in_few : (made : List ℕ) → AreFew made → (g : ℕ) → IsIn g made → g < 1000
  in_few made few g i = all_at (λ h. h < 1000) made i.0 g i.1 few

  pub none_made : length p.world.fibers ≤ f → MakesAtOnce n p f []
  none_made past =
      let stays = unborn_stays p f (slice_get_past p.world.fibers f past) in
      let rests = leapt_rests n p f past in record {
        leads = sym rests;
        free = subst (Behind []) (sym stays) ([], p, refl, rests, λ g i. i);
        still = λ none. stays;
        few = in_few [] none_few;
      }

  pub leap_none : (old : List ℕ) → length p.world.fibers ≤ f → IsLeapTrail n old old p f
  leap_none old past = record { added = []; is = sym (append-nil old); makes = none_made past; few = none_few; moves = tt }

  module _ (low : f < 1000) (old mid : List ℕ) where
    pub leap_more : (new : List ℕ) (q r : Place) → IsFirstOf old mid p f → stepped p f ≡ Ok q → IsOwnTrail n mid new q r → leapt n p f ≡ Ok r →
        IsLeapTrail n old new p f
    leap_more new q r (inl first) goes own to =
        let few = few_append (f ∷ []) own.added (All-push (λ g. g < 1000) [] f none_few low) own.few in record {
          added = f ∷ own.added;
          is = own.is ∙ ap (λ l. l ++ own.added) first.0 ∙ append_assoc old (f ∷ []) own.added;
          makes = record {
            leads = ap (λ x. run stepped x own.added) goes ∙ led_run stepped (IsMade n) own.added q r own.led ∙ sym to;
            free = subst (Behind (f ∷ own.added)) (sym goes) (own.added, r, own.led, to, λ g i. (suc i.0, i.1));
            still = λ none. absurd (none (0, refl));
            few = in_few (f ∷ own.added) few;
          };
          few = few;
          moves = (first.1, λ x e. subst (λ y. AreMade y own.added) (let same : Ok q ≡ Ok x = sym goes ∙ e in cc) own.moves);
        }
    leap_more new q r (inr none) goes own to =
        let same : q ≡ p = (let both : Ok q ≡ Ok p = sym goes ∙ none.1 in cc) in record {
          added = own.added;
          is = own.is ∙ ap (λ l. l ++ own.added) none.0;
          makes = record {
            leads = ap (λ x. run stepped (Ok x) own.added) (sym same) ∙ led_run stepped (IsMade n) own.added q r own.led ∙ sym to;
            free = subst (Behind own.added) (sym goes) (own.added, r, own.led, to, λ g i. i);
            still = λ apart. none.1;
            few = in_few own.added own.few;
          };
          few = own.few;
          moves = subst (λ y. AreMade y own.added) same own.moves;
        }

    pub leap_stops : (e : RunError) → IsFirstOf old mid p f → stepped p f ≡ Err e → leapt n p f ≡ Err e → IsLeapTrail n old mid p f
    leap_stops e (inl first) stops to =
        let few = All-push (λ g. g < 1000) [] f none_few low in record {
          added = f ∷ [];
          is = first.0;
          makes = record {
            leads = stops ∙ sym to;
            free = subst (Behind (f ∷ [])) (sym stops) to;
            still = λ none. absurd (none (0, refl));
            few = in_few (f ∷ []) few;
          };
          few = few;
          moves = (first.1, λ x led. tt);
        }
    leap_stops e (inr none) stops to = let no : Ok p ≡ Err e = sym none.1 ∙ stops in absurd (cc)

-- an entry and the own moves after it are a trail
pub leap_trail : (n : AtOnce) (old new : List ℕ) (p : Place) (f : ℕ) (y : Result Place RunError) → IsLeapTrail n old new p f → leapt n p f ≡ y →
    IsTrail old new p y
leap_trail n old new p f y t e = record { added = t.added; is = t.is; leads = t.makes.leads ∙ e; few = t.few; moves = t.moves }

pub leap_made : (n : AtOnce) (new : List ℕ) (p : Place) (f : ℕ) → IsLeapTrail n [] new p f → MakesAtOnce n p f new
leap_made n new p f t = subst (MakesAtOnce n p f) (sym t.is) t.makes

-- the whole trail
pub trail_whole : (n : AtOnce) (first : Place) (schedule new : List ℕ) (y : Result Place RunError) → IsTrail [] new first y →
    run (chosen n) (Ok first) schedule ≡ y → IsUnfolded n first schedule new
trail_whole n first schedule new y t e = subst (IsUnfolded n first schedule) (sym t.is) (record { leads = t.leads ∙ sym e; few = t.few; moves = t.moves })

-- ---- answers
pub unfolded_next : (n : AtOnce) (most : ℕ) (first : Place) (found old : List Found) (a : Found) → AreUnfolded n most first found old →
    IsUnfoldedOf n most first found a → AreUnfolded n most first found (old ++ a ∷ [])
unfolded_next n most first found old a h it i b e = elim (get_end old a b i e) [
  | inl early ↦ h i b early
  | inr last ↦ subst (λ (x : Found). IsUnfoldedOf n most first found x) last.1 it
]

pub kept_next : (found old : List Found) (i : ℕ) (it b : Found) → slice_get found i ≡ Some it → b.end ≡ it.end →
    ((j : ℕ) (a : Found) → j < i → slice_get found j ≡ Some a → IsKeptIn old a)
    → (j : ℕ) (a : Found) → j < i + 1 → slice_get found j ≡ Some a → IsKeptIn (old ++ b ∷ []) a
kept_next found old i it b at same h j a low e = dite (ℕ_discrete j i)
    (λ is.
    let one : it ≡ a = same_Some it a (sym at ∙ subst (λ m. slice_get found m ≡ Some a) is e) in
    (b, (length old, get_last old b), same ∙ ap (λ (x : Found). x.end) one))
    (λ isnt.
    let k = h j a (omega arith) e in
    (k.0, more_in old (old ++ b ∷ []) k.0 (more_by old (b ∷ [])) k.1, k.2))

pub unfolded_sorted : (n : AtOnce) (most : ℕ) (first : Place) (found xs ys : List Found) → IsPermutation xs ys → AreUnfolded n most first found xs →
    AreUnfolded n most first found ys
unfolded_sorted n most first found xs ys moved h i a e =
    all_at (IsUnfoldedOf n most first found) ys i a e
    (All-permutation (IsUnfoldedOf n most first found) xs ys moved (all_from (IsUnfoldedOf n most first found) xs h))

pub kept_sorted : (xs ys : List Found) (a : Found) → IsPermutation xs ys → IsKeptIn xs a → IsKeptIn ys a
kept_sorted xs ys a moved k =
    let there = all_from (λ (x : Found). IsIn x ys) ys (λ i x e. (i, e)) in
    let here = All-permutation (λ (x : Found). IsIn x ys) ys xs (IsPermutation-sym xs ys moved) there in
    (k.0, all_at (λ (x : Found). IsIn x ys) xs k.1.0 k.0 k.1.1 here, k.2)

module _ (kept : Kept) (first : Place) (n : AtOnce) (most : ℕ) (found answers : List Found) (each : AreUnfolded n most first found answers) where
  pub right : All (search.IsRight (chosen n) report_at kept.places kept.faults first) found →
      All (search.IsRight stepped report_at kept.places kept.faults first) answers
  right h = all_from (search.IsRight stepped report_at kept.places kept.faults first) answers (λ i a e.
      let u = each i a e in
      let there = all_at (search.IsRight (chosen n) report_at kept.places kept.faults first) found u.number u.answer u.at h in
      subst (λ (l : Landing). search.LeadsTo stepped report_at kept.places kept.faults first a.schedule.items l) (sym u.end)
      (leads_up stepped (chosen n) (chosen_reduces n) report_at size reports_grow kept.places kept.faults first a.schedule.items
      u.answer.schedule.items u.answer.end u.entries.leads there))

  pub few : All (search.IsNumbered 1000) answers
  few = all_from (search.IsNumbered 1000) answers (λ i a e. (each i a e).entries.few)

  pub made : All (λ a. AreMade first a.schedule.items) answers
  made = all_from (λ a. AreMade first a.schedule.items) answers (λ i a e. (each i a e).entries.moves)

  pub brief : All (search.IsShort most) answers
  brief = all_from (search.IsShort most) answers (λ i a e. (each i a e).short)

  module _ (whole : (i : ℕ) (a : Found) → slice_get found i ≡ Some a → IsKeptIn answers a) where
    answered_so : (y : Result Place RunError) → search.IsAnswered stepped report_at kept.places kept.faults found y →
        search.IsAnswered stepped report_at kept.places kept.faults answers y
    answered_so y h =
        let k = whole h.1.0 h.0 h.1.1 in
        (k.0, k.1, subst (λ (l : Landing). search.Tells stepped report_at kept.places kept.faults l y) (sym k.2) h.2)

    covered_so : (y : Result Place RunError) → search.IsCovered stepped report_at kept.places kept.faults found y →
        search.IsCovered stepped report_at kept.places kept.faults answers y
    covered_so (Ok p) h = λ settled. answered_so (Ok p) (h settled)
    covered_so (Err e) h = answered_so (Err e) h

    end_so : (y : Result Place RunError) → search.IsEnd stepped report_at kept.places kept.faults found y →
        search.IsEnd stepped report_at kept.places kept.faults answers y
    end_so (Ok p) h = (h.0, answered_so (Ok p) h.1)
    end_so (Err e) h = answered_so (Err e) h

    pub all_covered : ((t : List ℕ) → search.IsCovered (chosen n) report_at kept.places kept.faults found (run (chosen n) (Ok first) t)) →
        (s : List ℕ) → search.IsCovered stepped report_at kept.places kept.faults answers (run stepped (Ok first) s)
    all_covered h s = covered_so (run stepped (Ok first) s)
        (covers stepped (chosen n) (chosen_reduces n) report_at size reports_grow kept.places kept.faults found first h s)

    pub all_onward : ((t : List ℕ) → (more : List ℕ) ×
        search.IsEnd (chosen n) report_at kept.places kept.faults found (run (chosen n) (Ok first) (t ++ more))) → (s : List ℕ) → (more : List ℕ) ×
        search.IsEnd stepped report_at kept.places kept.faults answers (run stepped (Ok first) (s ++ more))
    all_onward h s =
        let on = goes_onward stepped (chosen n) (chosen_reduces n) report_at size reports_grow kept.places kept.faults found first h s in
        (on.0, end_so (run stepped (Ok first) (s ++ on.0)) on.1)

-- ---- ends at different numbers
-- each of these answers has the end of one of the first n that were found
abbrev pub EndsBefore : List Found → ℕ → List Found → Type 0
EndsBefore found n answers = (k : ℕ) (a : Found) → slice_get answers k ≡ Some a → (m : ℕ) × (b : Found) × (m < n) × (slice_get found m ≡ Some b) ×
    (a.end ≡ b.end)

pub before_more : (found answers : List Found) (n : ℕ) → EndsBefore found n answers → EndsBefore found (n + 1) answers
before_more found answers n h k a at = let x = h k a at in let low = x.2 in (x.0, x.1, omega arith, x.3, x.4)

pub before_next : (found old : List Found) (n : ℕ) (it one : Found) → slice_get found n ≡ Some it → one.end ≡ it.end → EndsBefore found n old →
    EndsBefore found (n + 1) (old ++ one ∷ [])
before_next found old n it one at same h k a e = elim (get_end old one a k e) [
  | inl early ↦ before_more found old n h k a early
  | inr last ↦ (n, it, omega arith, at, sym (ap (λ (x : Found). x.end) last.1) ∙ same)
]

pub apart_next : (found old : List Found) (n : ℕ) (it one : Found) → slice_get found n ≡ Some it → one.end ≡ it.end → EndApart found →
    EndsBefore found n old → EndApart old → EndApart (old ++ one ∷ [])
apart_next found old n it one at same all before h i j a b ei ej is = elim (get_end old one a i ei) [
  | inl x ↦ elim (get_end old one b j ej) [
    | inl y ↦ h i j a b x y is
    | inr y ↦
        let u = before i a x in
        let low = u.2 in
        let there = all u.0 n u.1 it u.3 at (sym u.4 ∙ is ∙ sym (ap (λ (x : Found). x.end) y.1) ∙ same) in
        absurd (omega arith)
  ]
  | inr x ↦ elim (get_end old one b j ej) [
    | inl y ↦
        let u = before j b y in
        let low = u.2 in
        let there = all u.0 n u.1 it u.3 at (sym u.4 ∙ sym is ∙ sym (ap (λ (x : Found). x.end) x.1) ∙ same) in
        absurd (omega arith)
    | inr y ↦ x.0 ∙ sym y.0
  ]
]

-- no answer with the end of one of the first n has the end of the next one
pub alone_here : (found old : List Found) (n : ℕ) (it one : Found) → slice_get found n ≡ Some it → one.end ≡ it.end → EndApart found →
    EndsBefore found n old → EndsAlone one old
alone_here found old n it one at same all before = all_from (λ b. b.end ≢ one.end) old (λ k b e is.
    let u = before k b e in
    let low = u.2 in
    let there = all u.0 n u.1 it u.3 at (sym u.4 ∙ is ∙ same) in
    absurd (omega arith))

-- the next answer has no end of the first n
pub alone_next : (found old : List Found) (m n : ℕ) (was it a one : Found) → m < n → slice_get found m ≡ Some was → a.end ≡ was.end →
    slice_get found n ≡ Some it → one.end ≡ it.end → EndApart found → EndsAlone a old → EndsAlone a (old ++ one ∷ [])
alone_next found old m n was it a one low before so at same all alone = All-push (λ b. b.end ≢ a.end) old one alone
    (λ is. let there = all m n was it before at (sym so ∙ sym is ∙ same) in absurd (omega arith))

pub alone_sorted : (xs ys : List Found) (a : Found) → IsPermutation xs ys → EndsAlone a xs → EndsAlone a ys
alone_sorted xs ys a moved h = All-permutation (λ b. b.end ≢ a.end) xs ys moved h

-- where an element was before two were swapped
pub record WasAt {A : Type 0} (xs : List A) (m n k : ℕ) (a : A) : Type 0 where
  pub place : ℕ
  pub here : slice_get xs place ≡ Some a
  pub moved : ((k ≡ m) × (place ≡ n)) ⊎ (((k ≡ n) × (place ≡ m)) ⊎ ((k ≢ m) × (k ≢ n) × (place ≡ k)))

was_at : {A : Type 0} (xs : List A) (m n k : ℕ) (a : A) → m < length xs → n < length xs → slice_get (swap xs m n) k ≡ Some a → WasAt xs m n k a
was_at xs m n k a lm ln e =
    let s = swapped_from_swap xs (swap xs m n) m n a lm ln refl in
    let low = slice_get_within (swap xs m n) k a e in
    let long = length-swap xs m n in
    let here : get_or (swap xs m n) k a ≡ a = get_or_from_slice_get (swap xs m n) k a a e in
    dite (ℕ_discrete k m)
    (λ is. record {
      place = n;
      here = slice_get-get_or xs n a ln ∙ ap Some (sym s.0 ∙ ap (λ i. get_or (swap xs m n) i a) (sym is) ∙ here);
      moved = inl (is, refl);
    })
    (λ isnt. dite (ℕ_discrete k n)
    (λ is. record {
      place = m;
      here = slice_get-get_or xs m a lm ∙ ap Some (sym s.1 ∙ ap (λ i. get_or (swap xs m n) i a) (sym is) ∙ here);
      moved = inr (inl (is, refl));
    })
    (λ no. record {
      place = k;
      here = slice_get-get_or xs k a (omega arith) ∙ ap Some (sym (s.2 k isnt no) ∙ here);
      moved = inr (inr (isnt, no, refl));
    }))

apart_swapped : (xs : List Found) (m n : ℕ) → m < length xs → n < length xs → EndApart xs → EndApart (swap xs m n)
apart_swapped xs m n lm ln h i j a b ei ej is =
    let u = was_at xs m n i a lm ln ei in
    let v = was_at xs m n j b lm ln ej in
    let same : u.place ≡ v.place = h u.place v.place a b u.here v.here is in
    elim u.moved [
      | inl x ↦ elim v.moved [
        | inl y ↦ x.0 ∙ sym y.0
        | inr y ↦ elim y [
          | inl z ↦ x.0 ∙ sym z.1 ∙ sym same ∙ x.1 ∙ sym z.0
          | inr z ↦ absurd (z.1 (sym z.2 ∙ sym same ∙ x.1))
        ]
      ]
      | inr w ↦ elim w [
        | inl x ↦ elim v.moved [
          | inl y ↦ x.0 ∙ sym y.1 ∙ sym same ∙ x.1 ∙ sym y.0
          | inr y ↦ elim y [
            | inl z ↦ x.0 ∙ sym z.0
            | inr z ↦ absurd (z.0 (sym z.2 ∙ sym same ∙ x.1))
          ]
        ]
        | inr x ↦ elim v.moved [
          | inl y ↦ absurd (x.1 (sym x.2 ∙ same ∙ y.1))
          | inr y ↦ elim y [
            | inl z ↦ absurd (x.0 (sym x.2 ∙ same ∙ z.1))
            | inr z ↦ sym x.2 ∙ same ∙ z.2
          ]
        ]
      ]
    ]

pub apart_sorted : (xs ys : List Found) → IsPermutation xs ys → EndApart xs → EndApart ys
apart_sorted xs ys moved h = IsPermutation-keeps xs EndApart h apart_swapped ys moved

-- if each report and each fault is listed once, so is each end
not_apart : (k : AtOnce) (kept : Kept) (first : Place) (s : List ℕ) (l : Landing) → search.LeadsTo (chosen k) report_at kept.places kept.faults first s l →
    search.AreApart report_at kept.places l l → ⊥
not_apart k kept first s (to.World j) h apart = apart h.0 h.0 h.1 h.1 refl
not_apart k kept first s (to.Fault j) h apart = apart refl

pub found_apart : (k : AtOnce) (kept : Kept) (first : Place) (found : List Found) →
    All (search.IsRight (chosen k) report_at kept.places kept.faults first) found → search.TellOnce report_at kept.places found → EndApart found
found_apart k kept first found right once i j a b ei ej same =
    let its = all_at (search.IsRight (chosen k) report_at kept.places kept.faults first) found in
    elim (cases_order i j) [
      | inl is ↦ is
      | inr other ↦ elim other [
        | inl low ↦ absurd (not_apart k kept first a.schedule.items a.end (its i a ei right)
            (subst (λ (l : Landing). search.AreApart report_at kept.places a.end l) (sym same) (once i j a b low ei ej)))
        | inr high ↦ absurd (not_apart k kept first a.schedule.items a.end (its i a ei right)
            (subst (λ (l : Landing). search.AreApart report_at kept.places l a.end) (sym same) (once j i b a high ej ei)))
      ]
    ]

apart_back : (kept : Kept) (l m : Landing) → search.AreApart report_at kept.places l m → search.AreApart report_at kept.places m l
apart_back kept (to.World i) (to.World j) h = λ v w ev ew same. h w v ew ev (sym same)
apart_back kept (to.World i) (to.Fault j) h = tt
apart_back kept (to.Fault i) (to.World j) h = tt
apart_back kept (to.Fault i) (to.Fault j) h = λ same. h (sym same)

pub unfolded_once : (kept : Kept) (first : Place) (n : AtOnce) (most : ℕ) (found answers : List Found) → AreUnfolded n most first found answers →
    search.TellOnce report_at kept.places found → EndApart answers → search.TellOnce report_at kept.places answers
unfolded_once kept first n most found answers each once apart i j a b less ei ej =
    let u = each i a ei in
    let v = each j b ej in
    let ends = (λ (h : search.AreApart report_at kept.places u.answer.end v.answer.end).
    subst (λ (l : Landing). search.AreApart report_at kept.places l b.end) (sym u.end)
    (subst (λ (l : Landing). search.AreApart report_at kept.places u.answer.end l) (sym v.end) h)) in
    elim (cases_order u.number v.number) [
      | inl is ↦
          let one : u.answer ≡ v.answer = same_Some u.answer v.answer (sym u.at ∙ subst (λ x. slice_get found x ≡ Some v.answer) (sym is) v.at) in
          let both : i ≡ j = apart i j a b ei ej (u.end ∙ ap (λ (x : Found). x.end) one ∙ sym v.end) in
          absurd (omega arith)
      | inr other ↦ elim other [
        | inl low ↦ ends (once u.number v.number u.answer v.answer low u.at v.at)
        | inr high ↦ ends (apart_back kept v.answer.end u.answer.end (once v.number u.number v.answer u.answer high v.at u.at))
      ]
    ]

-- ---- the order of answers
pub stands : (answers : List Found) → IsNonDecreasingBy (λ (a : Found). rank_of a.end) answers →
    ((i : ℕ) (d : Found) → i + 1 < length answers → rank_of (get_or answers i d).end ≡ rank_of (get_or answers (i + 1) d).end →
    length (get_or answers i d).schedule.items ≤ length (get_or answers (i + 1) d).schedule.items) → AreSorted answers
stands answers ranks short i a b ea eb =
    let low = slice_get_within answers (i + 1) b eb in
    let one : get_or answers i a ≡ a = get_or_from_slice_get answers i a a ea in
    let other : get_or answers (i + 1) a ≡ b = get_or_from_slice_get answers (i + 1) b a eb in
    let up = ranks i (i + 1) a (omega arith) low in
    let rank_one = ap (λ (x : Found). rank_of x.end) one in
    let rank_other = ap (λ (x : Found). rank_of x.end) other in
    let long_one = ap (λ (x : Found). length x.schedule.items) one in
    let long_other = ap (λ (x : Found). length x.schedule.items) other in
    record {
      rank = omega arith;
      short = λ tie. let less = short i a low (rank_one ∙ tie ∙ sym rank_other) in omega arith;
    }
