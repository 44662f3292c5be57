-- The values that were said before a mark, and after it.
use Rattle.std.proofs.Common.{◌≡◌, ◌≢◌, ◌≤◌, ℕ, zero, suc, ◌+◌, Bool, true, false, not, List, [], ◌∷◌, ◌++◌, length, take, drop, refl, sym, ap, ◌∙◌, arith}
use Rattle.std.proofs.{Common.{add-one, append-nil}, lemmas.{List.{take_all, Elements.filter_map-append}, Option.{none-some, same_Some, slice_get_past}}}
use Rattle.std.specs.{Prelude.{ℤ, Option, Some, None, is_some}, List.{cons_option, slice_get}}
use Rattle.fiber_frames.specs.declared.mark.Mark.{Mark}
use Rattle.compared_ends.specs.Views.{said, value_said}

-- a list around one of its elements
pub around : {A : Type 0} (xs : List A) (i : ℕ) (x : A) → slice_get xs i ≡ Some x → xs ≡ take i xs ++ x ∷ drop (suc i) xs
around [] i x e = cc
around (y ∷ xs) zero x e = ap (λ z. z ∷ xs) (same_Some y x e)
around (y ∷ xs) (suc i) x e = ap (λ l. y ∷ l) (around xs i x e)

pub take_next : {A : Type 0} (xs : List A) (i : ℕ) (x : A) → slice_get xs i ≡ Some x → take (suc i) xs ≡ take i xs ++ x ∷ []
take_next [] i x e = cc
take_next (y ∷ xs) zero x e = ap (λ z. z ∷ []) (same_Some y x e)
take_next (y ∷ xs) (suc i) x e = ap (λ l. y ∷ l) (take_next xs i x e)

-- a mark that says nothing
pub silent_next : (ms : List Mark) (i : ℕ) (m : Mark) → slice_get ms i ≡ Some m → value_said m ≡ None → said (take (i + 1) ms) ≡ said (take i ms)
silent_next ms i m e silent =
    let step : take (i + 1) ms ≡ take i ms ++ m ∷ [] = rw add-one (take_next ms i m e) in
    ap (λ (l : List Mark). said l) step ∙ filter_map-append value_said (take i ms) (m ∷ []) ∙
    ap (λ o. said (take i ms) ++ cons_option o []) silent ∙ append-nil (said (take i ms))

-- a mark that says this value
pub said_next : (ms : List Mark) (i : ℕ) (m : Mark) (v : ℤ) → slice_get ms i ≡ Some m → value_said m ≡ Some v →
    said (take (i + 1) ms) ≡ said (take i ms) ++ v ∷ []
said_next ms i m v e says =
    let step : take (i + 1) ms ≡ take i ms ++ m ∷ [] = rw add-one (take_next ms i m e) in
    ap (λ (l : List Mark). said l) step ∙ filter_map-append value_said (take i ms) (m ∷ []) ∙
    ap (λ o. said (take i ms) ++ cons_option o []) says

-- all values that are said, around one of them
pub said_around : (ms : List Mark) (i : ℕ) (m : Mark) (v : ℤ) → slice_get ms i ≡ Some m → value_said m ≡ Some v →
    said ms ≡ said (take i ms) ++ v ∷ said (drop (suc i) ms)
said_around ms i m v e says =
    ap (λ (l : List Mark). said l) (around ms i m e) ∙ filter_map-append value_said (take i ms) (m ∷ drop (suc i) ms) ∙
    ap (λ o. said (take i ms) ++ cons_option o (said (drop (suc i) ms))) says

-- a list isn't equal to a longer list that extends it
pub no_longer : {A : Type 0} (xs ys : List A) (y : A) → xs ≢ xs ++ y ∷ ys
no_longer [] ys y = λ same. cc
no_longer (x ∷ xs) ys y = λ same. no_longer xs ys y cc

-- two lists that differ after the same front
pub parted : {A : Type 0} (xs ys zs : List A) (y z : A) → y ≢ z → xs ++ y ∷ ys ≢ xs ++ z ∷ zs
parted [] ys zs y z apart = λ same. apart cc
parted (x ∷ xs) ys zs y z apart = λ same. parted xs ys zs y z apart cc

-- what `is_none` returns
pub none_of : (o : Option ℤ) (b : Bool) → is_some o ≡ not b → b ≡ true → o ≡ None
none_of None b e h = refl
none_of (Some v) b e h = absurd (let bad : true ≡ false = e ∙ ap not h in cc)

some_of : (o : Option ℤ) (b : Bool) → is_some o ≡ not b → b ≡ false → o ≢ None
some_of None b e h = λ none. let bad : false ≡ true = e ∙ ap not h in cc
some_of (Some v) b e h = λ none. cc

-- the mark at this index says a value, or there is none
pub stops_here : (ms : List Mark) (i : ℕ) (x : Mark) (o : Option ℤ) (b : Bool) → slice_get ms i ≡ Some x → o ≡ value_said x → is_some o ≡ not b → b ≡ false →
    (m : Mark) → slice_get ms i ≡ Some m → value_said m ≢ None
stops_here ms i x o b at is some stops m here = λ none.
    let same : x ≡ m = same_Some x m (sym at ∙ here) in
    some_of o b some stops (is ∙ ap (λ y. value_said y) same ∙ none)

pub stops_past : (ms : List Mark) (i : ℕ) → length ms ≤ i → (m : Mark) → slice_get ms i ≡ Some m → value_said m ≢ None
stops_past ms i past m here = λ none. none-some m (sym (slice_get_past ms i past) ∙ here)

-- `one` says v at index i, and before what `other` says before index p; `other` says nothing from p up to n
module _ (one other : List Mark) (i p n : ℕ) (m : Mark) (v : ℤ) (at : slice_get one i ≡ Some m) (says : value_said m ≡ Some v)
    (so_far : said (take i one) ≡ said (take p other)) (silent : said (take n other) ≡ said (take p other)) where
  -- `other` says nothing more
  pub one_says_more : n ≡ length other → said one ≢ said other
  one_says_more end = λ same.
      let all : take n other ≡ other = take_all n other (omega (arith, end)) in
      no_longer (said (take i one)) (said (drop (suc i) one)) v
      (so_far ∙ sym silent ∙ ap (λ (l : List Mark). said l) all ∙ sym same ∙ said_around one i m v at says)

  -- `other` says something else next
  says_else : (o : Mark) (x : Option ℤ) → slice_get other n ≡ Some o → value_said o ≡ x → x ≢ None → x ≢ Some v → said one ≢ said other
  says_else o None there is some else' = λ same. some refl
  says_else o (Some w) there is some else' = λ same.
      let left = said_around one i m v at says in
      let right = said_around other n o w there is in
      let front : said (take i one) ≡ said (take n other) = so_far ∙ sym silent in
      parted (said (take n other)) (said (drop (suc i) one)) (said (drop (suc n) other)) v w (λ e. else' (ap Some (sym e)))
      (ap (λ l. l ++ v ∷ said (drop (suc i) one)) (sym front) ∙ sym left ∙ same ∙ right)

  pub other_says_else : (o : Mark) → slice_get other n ≡ Some o → value_said o ≢ None → value_said o ≢ Some v → said one ≢ said other
  other_says_else o there some else' = says_else o (value_said o) there refl some else'

  -- `other` says the same next
  pub both_say : (o : Mark) (q : ℕ) → slice_get other n ≡ Some o → value_said o ≡ Some v → q ≡ n + 1 → said (take (i + 1) one) ≡ said (take q other)
  both_say o q there is next =
      said_next one i m v at says ∙ ap (λ l. l ++ v ∷ []) (so_far ∙ sym silent) ∙ sym (said_next other n o v there is) ∙
      ap (λ j. said (take j other)) (sym next)

-- `one` has ended, and `other` says more
pub other_says_more : (one other : List Mark) (i p n : ℕ) (o : Mark) (x : Option ℤ) → said (take i one) ≡ said (take p other) →
    said (take n other) ≡ said (take p other) → length one ≤ i → slice_get other n ≡ Some o → value_said o ≡ x → x ≢ None → said one ≢ said other
other_says_more one other i p n o None so_far silent past there is some = λ same. some refl
other_says_more one other i p n o (Some w) so_far silent past there is some = λ same.
    let all : take i one ≡ one = take_all i one past in
    no_longer (said (take n other)) (said (drop (suc n) other)) w
    (silent ∙ sym so_far ∙ ap (λ (l : List Mark). said l) all ∙ same ∙ said_around other n o w there is)
