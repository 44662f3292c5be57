-- Numbers, items and texts of items.
use Rattle.std.proofs.Common.{◌≡◌, ◌≢◌, ◌+◌, ◌<◌, ◌≤◌, ◌^◌, ℕ, true, List, [], ◌∷◌, ◌++◌, length, get_or, Result, Ok, Err, IfOk, Option, Some, None}
use Rattle.std.proofs.Common.{MatchOption, arith, refl, sym, ap, ◌∙◌, inl, inr, append_assoc, replicate, ◌/◌, ◌%◌, ◌-◌, length-append, Bor, suc, append-nil}
use Rattle.std.proofs.{Common.{drop, take, ◌*◌}, Math.Seq.{drop-cons, take-add, take-suc}, lemmas.List.{get_or-drop, length-drop, take-append-drop}}
use Rattle.std.proofs.lemmas.{List.length-replicate, Str.Parse.{IsNumeralModel, numerals_by_value, tells_digits, parse_plain, not_in_digits}}
use Rattle.std.proofs.lemmas.Fmt.{digits_decimal, decimal-digits_value, first_decimal, decimal_nonempty, decimal_injective, decimal_digit, decimal_step}
use Rattle.std.{proofs.lemmas.{Bool.cases_lt, Grind.common_steps}, specs.{Fmt.decimal, List.AllByRecursion, Str.Parse.{AllDigits, digits_value}}}
use Rattle.std.specs.{Str.Parse.ParsesUnsigned, declared.vec.Vec.Vec}
use Rattle.text_io.specs.{Digits.is_plain, Schedule.{Item, once, repeated, IsItem, fiber_of, times_of, spelling, text_of, entries_of, front_of, BeginsWith}}
use Rattle.text_io.specs.{Schedule.{IsFirstBad, HasNo, IsItemOf, SpellsEntries, GivesEntries, RefusesAt}, Reading.{GoesOn, HasRead}}
use Rattle.text_io.specs.declared.schedule.ScheduleError.{ScheduleError, TheVariants.{NoMemory, BadSchedule}}

own : IsNumeralModel (AllDigits 10) (digits_value 10)
own = numerals_by_value (AllDigits 10) tells_digits

-- Numbers

plain_sign : (bs : List ℕ) → is_plain bs ≡ true → get_or bs 0 0 ≢ 43
plain_sign [] h = λ e. cc
plain_sign (b ∷ []) h = grind (arith, common_steps)
plain_sign (b ∷ c ∷ bs) h = grind (arith, common_steps)

plain_zero : (bs : List ℕ) → is_plain bs ≡ true → get_or bs 0 0 ≡ 48 → length bs ≡ 1
plain_zero [] h e = cc
plain_zero (b ∷ []) h e = refl
plain_zero (b ∷ c ∷ bs) h e = grind (arith, common_steps)

plain_long : (bs : List ℕ) → 1 < length bs → 48 < get_or bs 0 0 → is_plain bs ≡ true
plain_long [] l f = absurd (omega arith)
plain_long (b ∷ []) l f = absurd (omega arith)
plain_long (b ∷ c ∷ bs) l f = grind (arith, common_steps)

plain_digit : (n : ℕ) → is_plain ((48 + n) ∷ []) ≡ true
plain_digit n = grind (arith, common_steps)

pub decimal_plain : (n : ℕ) → n < 2 ^ 32 → is_plain (decimal n) ≡ true
decimal_plain n small = elim (cases_lt n 10) [
  | inr big ↦
      let some : 0 < length (decimal (n / 10)) = decimal_nonempty (n / 10) (omega arith) in
      let two : 1 < length (decimal n) = rw (decimal_step n big (omega arith)) (omega (arith, length-append (decimal (n / 10)) ((48 + n % 10) ∷ []))) in
      plain_long (decimal n) two (first_decimal n (omega arith) (omega arith))
  | inl low ↦ rw (decimal_digit n low) (plain_digit n)
]

-- what was parsed is the text of its number
pub parsed : {E : Type 0} (bs : List ℕ) (r : Result ℕ E) → is_plain bs ≡ true → ParsesUnsigned 32 10 bs r → IfOk r (λ n. bs ≡ decimal n)
parsed bs (Err e) p h = tt
parsed {E} bs (Ok n) p h =
    let w = parse_plain own {E = E} 32 bs (Ok n) h (plain_sign bs p) in
    sym (ap decimal w.1 ∙ decimal-digits_value own bs w.0.0 w.0.1 (plain_zero bs p) (omega (arith, w.0.2)))

-- Texts without a byte

pub no_at : (c : ℕ) (xs : List ℕ) → ((i : ℕ) → i < length xs → get_or xs i 0 ≢ c) → HasNo c xs
no_at c [] h = tt
no_at c (x ∷ xs) h = (h 0 (omega arith), no_at c xs (λ i l. h (suc i) (omega arith)))

pub no_digit : (c n : ℕ) → c < 48 → n < 2 ^ 32 → HasNo c (decimal n)
no_digit c n low small = no_at c (decimal n) (not_in_digits own (decimal n) c (digits_decimal own n (omega arith)) (λ r. omega (arith, r.0)))

no_append : (c : ℕ) (xs ys : List ℕ) → HasNo c xs → HasNo c ys → HasNo c (xs ++ ys)
no_append c [] ys h k = k
no_append c (x ∷ xs) ys h k = (h.0, no_append c xs ys h.1 k)

pub cut_same : (c : ℕ) (a b x y : List ℕ) → HasNo c a → HasNo c b → a ++ c ∷ x ≡ b ++ c ∷ y → (a ≡ b) × (x ≡ y)
cut_same c [] [] x y h k e = (refl, cc)
cut_same c [] (q ∷ b) x y h k e = absurd (k.0 (cc))
cut_same c (p ∷ a) [] x y h k e = absurd (h.0 (cc))
cut_same c (p ∷ a) (q ∷ b) x y h k e =
    let rest : a ++ c ∷ x ≡ b ++ c ∷ y = cc in
    let r = cut_same c a b x y h.1 k.1 rest in
    (cc, r.1)

pub no_cut : (c : ℕ) (a b y : List ℕ) → HasNo c a → a ≡ b ++ c ∷ y → ⊥
no_cut c [] [] y h e = cc
no_cut c [] (q ∷ b) y h e = cc
no_cut c (p ∷ a) [] y h e = h.0 (cc)
no_cut c (p ∷ a) (q ∷ b) y h e = let rest : a ≡ b ++ c ∷ y = cc in no_cut c a b y h.1 rest

-- Items

no_space : (i : Item) → IsItem i → HasNo 32 (spelling i)
no_space (once f) g = no_digit 32 f (omega arith) (omega arith)
no_space (repeated f k) g =
    no_append 32 (decimal f) (42 ∷ decimal k) (no_digit 32 f (omega arith) (omega (arith, g.0)))
    ((λ e. omega arith), no_digit 32 k (omega arith) (omega (arith, g.2)))

spelling_same : (i j : Item) → IsItem i → IsItem j → spelling i ≡ spelling j → i ≡ j
spelling_same (once f) (once g) p q e = ap once (decimal_injective f g (omega arith) (omega arith) e)
spelling_same (once f) (repeated g l) p q e = absurd (no_cut 42 (decimal f) (decimal g) (decimal l) (no_digit 42 f (omega arith) (omega arith)) e)
spelling_same (repeated f k) (once g) p q e = absurd (no_cut 42 (decimal g) (decimal f) (decimal k) (no_digit 42 g (omega arith) (omega arith)) (sym e))
spelling_same (repeated f k) (repeated g l) p q e =
    let both = cut_same 42 (decimal f) (decimal g) (decimal k) (decimal l) (no_digit 42 f (omega arith) (omega (arith, p.0)))
    (no_digit 42 g (omega arith) (omega (arith, q.0))) e in
    let fs : f ≡ g = decimal_injective f g (omega (arith, p.0)) (omega (arith, q.0)) both.0 in
    let ks : k ≡ l = decimal_injective k l (omega (arith, p.2)) (omega (arith, q.2)) both.1 in
    cc

-- a text without a star is an item only as a number
pub unstarred : (text : List ℕ) → HasNo 42 text → ((f : ℕ) → f ≤ 999 → text ≡ decimal f → ⊥) → (i : Item) → IsItem i → text ≡ spelling i → ⊥
unstarred text alone bad (once f) g e = bad f (omega arith) e
unstarred text alone bad (repeated f k) g e = no_cut 42 text (decimal f) (decimal k) alone e

pub starred : (text a b : List ℕ) → text ≡ a ++ 42 ∷ b → HasNo 42 a →
    ((f k : ℕ) → f ≤ 999 → 0 < k → k ≤ 100000 → a ≡ decimal f → b ≡ decimal k → ⊥) → (i : Item) → IsItem i → text ≡ spelling i → ⊥
starred text a b cut alone bad (once f) g e = no_cut 42 (decimal f) a b (no_digit 42 f (omega arith) (omega arith)) (sym e ∙ cut)
starred text a b cut alone bad (repeated f k) g e =
    let both = cut_same 42 a (decimal f) b (decimal k) alone (no_digit 42 f (omega arith) (omega (arith, g.0))) (sym cut ∙ e) in
    bad f k (omega (arith, g.0)) g.1 g.2 both.0 both.1

-- Texts of items

pub good_more : (items : List Item) (i : Item) → AllByRecursion IsItem items → IsItem i → AllByRecursion IsItem (items ++ i ∷ [])
good_more [] i h g = (g, tt)
good_more (j ∷ items) i h g = (h.0, good_more items i h.1 g)

pub front_more : (items : List Item) (i : Item) → front_of (items ++ i ∷ []) ≡ front_of items ++ (spelling i ++ 32 ∷ [])
front_more [] i = refl
front_more (j ∷ items) i = rw (front_more items i) (sym (append_assoc (spelling j) (32 ∷ front_of items) (spelling i ++ 32 ∷ [])))

pub entries_more : (items : List Item) (i : Item) → entries_of (items ++ i ∷ []) ≡ entries_of items ++ replicate (times_of i) (fiber_of i)
entries_more [] i = append-nil (replicate (times_of i) (fiber_of i))
entries_more (j ∷ items) i =
    rw (entries_more items i) (sym (append_assoc (replicate (times_of j) (fiber_of j)) (entries_of items) (replicate (times_of i) (fiber_of i))))

pub text_more : (items : List Item) (i : Item) → text_of (items ++ i ∷ []) ≡ front_of items ++ spelling i
text_more [] i = refl
text_more (j ∷ []) i = rw append_assoc refl
text_more (j ∷ k ∷ items) i = rw (text_more (k ∷ items) i) (sym (append_assoc (spelling j) (32 ∷ front_of (k ∷ items)) (spelling i)))

spelling_some : (i : Item) → IsItem i → 0 < length (spelling i)
spelling_some (once f) g = decimal_nonempty f (omega arith)
spelling_some (repeated f k) g = omega (arith, length-append (decimal f) (42 ∷ decimal k))

text_some : (i : Item) (items : List Item) → IsItem i → 0 < length (text_of (i ∷ items))
text_some i [] g = spelling_some i g
text_some i (j ∷ items) g = omega (arith, length-append (spelling i) (32 ∷ text_of (j ∷ items)), spelling_some i g)

-- a text of good items has no first bad one
not_bad : (n : ℕ) (i : Item) (items before : List Item) (rest : List ℕ) → AllByRecursion IsItem (i ∷ items) → AllByRecursion IsItem before →
    text_of (i ∷ items) ≡ front_of before ++ rest → n + length (entries_of (i ∷ items)) ≤ 1000000 →
    ((j : Item) → IsItem j → BeginsWith rest j → n + (length (entries_of before) + times_of j) ≤ 1000000 → ⊥) → ⊥
not_bad n i [] [] rest g h e few bad =
    bad i g.0 (inl (sym e)) (omega (arith, length-append (replicate (times_of i) (fiber_of i)) [], length-replicate (times_of i) (fiber_of i)))
not_bad n i (k ∷ items) [] rest g h e few bad =
    bad i g.0 (inr (text_of (k ∷ items), sym e))
    (omega (arith, length-append (replicate (times_of i) (fiber_of i)) (entries_of (k ∷ items)), length-replicate (times_of i) (fiber_of i)))
not_bad n i [] (j ∷ before) rest g h e few bad =
    no_cut 32 (spelling i) (spelling j) (front_of before ++ rest) (no_space i g.0) (e ∙ append_assoc (spelling j) (32 ∷ front_of before) rest)
not_bad n i (k ∷ items) (j ∷ before) rest g h e few bad =
    let both = cut_same 32 (spelling i) (spelling j) (text_of (k ∷ items)) (front_of before ++ rest) (no_space i g.0) (no_space j h.0)
    (e ∙ append_assoc (spelling j) (32 ∷ front_of before) rest) in
    let same : i ≡ j = spelling_same i j g.0 h.0 both.0 in
    let times : times_of i ≡ times_of j = ap times_of same in
    not_bad (n + times_of i) k items before rest g.1 h.1 both.1
    (omega (arith, length-append (replicate (times_of i) (fiber_of i)) (entries_of (k ∷ items)), length-replicate (times_of i) (fiber_of i)))
    (λ m p q l. bad m p q (omega (arith, length-append (replicate (times_of j) (fiber_of j)) (entries_of before), length-replicate (times_of j) (fiber_of j))))

pub no_first_bad : (items : List Item) (text : List ℕ) (place : ℕ) → AllByRecursion IsItem items → text ≡ text_of items →
    length (entries_of items) ≤ 1000000 → IsFirstBad text place → ⊥
no_first_bad [] text place g e few b = let none : length text ≡ 0 = ap length e in omega (arith, b.some)
no_first_bad (i ∷ items) text place g e few b =
    not_bad 0 i items b.items b.rest g b.good (sym e ∙ b.text_is) (omega (arith, few)) (λ j p q l. b.bad j p q (omega (arith, l)))

-- a text has one reading
pub same_items : (xs ys : List Item) → AllByRecursion IsItem xs → AllByRecursion IsItem ys → text_of xs ≡ text_of ys → xs ≡ ys
same_items [] [] g h e = refl
same_items [] (j ∷ ys) g h e = let l : 0 ≡ length (text_of (j ∷ ys)) = ap length e in absurd (omega (arith, text_some j ys h.0))
same_items (i ∷ xs) [] g h e = let l : length (text_of (i ∷ xs)) ≡ 0 = ap length e in absurd (omega (arith, text_some i xs g.0))
same_items (i ∷ []) (j ∷ []) g h e = ap (λ k. k ∷ []) (spelling_same i j g.0 h.0 e)
same_items (i ∷ []) (j ∷ k ∷ ys) g h e = absurd (no_cut 32 (spelling i) (spelling j) (text_of (k ∷ ys)) (no_space i g.0) e)
same_items (i ∷ k ∷ xs) (j ∷ []) g h e = absurd (no_cut 32 (spelling j) (spelling i) (text_of (k ∷ xs)) (no_space j h.0) (sym e))
same_items (i ∷ k ∷ xs) (j ∷ l ∷ ys) g h e =
    let both = cut_same 32 (spelling i) (spelling j) (text_of (k ∷ xs)) (text_of (l ∷ ys)) (no_space i g.0) (no_space j h.0) e in
    let first : i ≡ j = spelling_same i j g.0 h.0 both.0 in
    let rest : k ∷ xs ≡ l ∷ ys = same_items (k ∷ xs) (l ∷ ys) g.1 h.1 both.1 in
    cc

-- The steps of the reader

pub read_more : (text rest first behind entries more : List ℕ) (fiber times : ℕ) → HasRead text rest entries → rest ≡ first ++ 32 ∷ behind →
    IsItemOf first fiber times → more ≡ entries ++ replicate times fiber → length entries + times ≤ 1000000 → HasRead text behind more
read_more text rest first behind entries more fiber times h cut i e few =
    let shape : text ≡ front_of h.items ++ (spelling i.item ++ 32 ∷ behind) = h.text_is ∙
    ap (λ t. front_of h.items ++ t) (cut ∙ ap (λ t. t ++ 32 ∷ behind) i.text_is) in
    record {
      items = h.items ++ i.item ∷ [];
      good = good_more h.items i.item h.good i.good;
      text_is = rw (front_more h.items i.item)
          (shape ∙ rw (append_assoc (front_of h.items) (spelling i.item ++ 32 ∷ []) behind, append_assoc (spelling i.item) (32 ∷ []) behind) refl);
      entries_are = rw (entries_more h.items i.item, ← i.times_is, ← i.fiber_is, ← h.entries_are) e;
      few = rw e (omega (arith, length-append entries (replicate times fiber), length-replicate times fiber));
      some = h.some;
    }

-- ---- items that a space stands behind
-- one digit more behind a number that isn't 0
pub digit_more : (bs : List ℕ) (i v d : ℕ) → i < length bs → get_or bs i 0 ≡ 48 + d → d < 10 → 0 < v → v < 1000000 → take i bs ≡ decimal v →
    take (i + 1) bs ≡ decimal (v * 10 + d)
digit_more bs i v d low here small some few is =
    let n = v * 10 + d in
    let front : n / 10 ≡ v = omega arith in
    let last : n % 10 ≡ d = omega arith in
    let next : i + 1 ≡ suc i = omega arith in
    ap (λ k. take k bs) next ∙ take-suc bs i 0 low ∙ rw (is, here) (sym (decimal_step n (omega arith) (omega arith) ∙ rw (front, last) refl))

-- the item that a number and what goes on behind it make, and what stands behind the item's space
pub first_of : (bs : List ℕ) (d fiber times space : ℕ) → take d bs ≡ decimal fiber → fiber < 1000 → d < length bs → GoesOn (drop d bs) times space →
    (first : List ℕ) × IsItemOf first fiber times × (bs ≡ first ++ 32 ∷ drop (d + space + 1) bs)
first_of bs d fiber times space front few inside g =
    let n = d + space in
    let within = g.within in
    let long = length-drop d bs in
    let low : n < length bs = omega arith in
    let here : get_or bs n 0 ≡ 32 = sym (get_or-drop d bs space 0) ∙ g.there in
    let next : suc n ≡ n + 1 = omega arith in
    let rest : drop n bs ≡ 32 ∷ drop (n + 1) bs = drop-cons bs n 0 low ∙ rw (here, next) refl in
    let parts : take n bs ≡ decimal fiber ++ take space (drop d bs) = take-add d space bs ∙ ap (λ t. t ++ take space (drop d bs)) front in
    let whole : bs ≡ take n bs ++ 32 ∷ drop (n + 1) bs = sym (take-append-drop n bs) ∙ ap (λ t. take n bs ++ t) rest in (
      take n bs,
      elim g.is [
        | inl one ↦ record {
          item = once fiber;
          good = few;
          text_is = parts ∙ ap (λ t. decimal fiber ++ t) one.1 ∙ append-nil (decimal fiber);
          fiber_is = refl;
          times_is = one.0;
        }
        | inr many ↦ record {
          item = repeated fiber times;
          good = (few, many.0, many.1);
          text_is = parts ∙ ap (λ t. decimal fiber ++ t) many.2;
          fiber_is = refl;
          times_is = refl;
        }
      ],
      whole,
    )

pub read_all : (text rest entries more : List ℕ) (fiber times : ℕ) → HasRead text rest entries → IsItemOf rest fiber times → more ≡ entries ++
    replicate times fiber → length entries + times ≤ 1000000 → SpellsEntries text more
read_all text rest entries more fiber times h i e few =
    record {
      items = h.items ++ i.item ∷ [];
      good = good_more h.items i.item h.good i.good;
      text_is = rw (text_more h.items i.item) (h.text_is ∙ ap (λ t. front_of h.items ++ t) i.text_is);
      entries_are = rw (entries_more h.items i.item, ← i.times_is, ← i.fiber_is, ← h.entries_are) e;
      few = rw e (omega (arith, length-append entries (replicate times fiber), length-replicate times fiber));
    }

-- the first item of a text is the only one that it begins with
begins_first : (rest first : List ℕ) (behind : Option (Bor (List ℕ))) (i : Item) → HasNo 32 first →
    MatchOption behind (rest ≡ first) (λ b. rest ≡ first ++ 32 ∷ b.now) → IsItem i → BeginsWith rest i → first ≡ spelling i
begins_first rest first None i alone cut g (inl e) = sym cut ∙ e
begins_first rest first None i alone cut g (inr w) = absurd (no_cut 32 first (spelling i) w.0 alone (sym cut ∙ w.1))
begins_first rest first (Some b) i alone cut g (inl e) = absurd (no_cut 32 (spelling i) first b.now (no_space i g) (sym e ∙ cut))
begins_first rest first (Some b) i alone cut g (inr w) = (cut_same 32 first (spelling i) b.now w.0 alone (no_space i g) (sym cut ∙ w.1)).0

pub read_bad : (text rest first entries : List ℕ) (behind : Option (Bor (List ℕ))) → HasRead text rest entries → HasNo 32 first →
    MatchOption behind (rest ≡ first) (λ b. rest ≡ first ++ 32 ∷ b.now) →
    ((i : Item) → IsItem i → first ≡ spelling i → length entries + times_of i ≤ 1000000 → ⊥) → IsFirstBad text (length text - length rest)
read_bad text rest first entries behind h alone cut bad = record {
  items = h.items;
  rest = rest;
  good = h.good;
  text_is = h.text_is;
  place_is = let l : length text ≡ length (front_of h.items ++ rest) = ap length h.text_is in omega (arith, length-append (front_of h.items) rest);
  few = rw (← h.entries_are) h.few;
  some = h.some;
  bad = λ i g b l. bad i g (begins_first rest first behind i alone cut g b) (rw h.entries_are l);
}

-- too many entries
pub too_many : (first entries : List ℕ) (fiber times : ℕ) → IsItemOf first fiber times → 1000000 < length entries + times → (i : Item) → IsItem i →
    first ≡ spelling i → length entries + times_of i ≤ 1000000 → ⊥
too_many first entries fiber times f many i g e l =
    let same : f.item ≡ i = spelling_same f.item i f.good g (sym f.text_is ∙ e) in
    let t : times ≡ times_of i = f.times_is ∙ ap times_of same in
    omega arith

-- A reader that tells the first bad item accepts each text of items.
pub accepts : {A : Type 0} (text : List ℕ) (r : Result (Vec ℕ A) ScheduleError) → IfOk r (λ v. SpellsEntries text v.items) →
    ((place : ℕ) → r ≡ Err (BadSchedule place) → IsFirstBad text place) → (entries : List ℕ) → SpellsEntries text entries → GivesEntries entries r
accepts text (Ok v) found place entries s =
    found.entries_are ∙ ap entries_of (same_items found.items s.items found.good s.good (sym found.text_is ∙ s.text_is)) ∙ sym s.entries_are
accepts text (Err NoMemory) found place entries s = tt
accepts text (Err (BadSchedule p)) found place entries s =
    no_first_bad s.items text p s.good s.text_is (rw (← s.entries_are) s.few) (place p refl)

pub empty_spells : (text entries : List ℕ) → length text ≡ 0 → SpellsEntries text entries → entries ≡ []
empty_spells text entries l s = s.entries_are ∙ ap entries_of (empty_items s.items s.good (sym (ap length s.text_is) ∙ l)) where
  empty_items : (items : List Item) → AllByRecursion IsItem items → length (text_of items) ≡ 0 → items ≡ []
  empty_items [] g e = refl
  empty_items (i ∷ items) g e = absurd (omega (arith, text_some i items g.0))

-- a text has one first bad item
first_bad_same : (n : ℕ) (xs ys : List Item) (r s : List ℕ) → AllByRecursion IsItem xs → AllByRecursion IsItem ys → front_of xs ++ r ≡ front_of ys ++
    s → n + length (entries_of xs) ≤ 1000000 → n + length (entries_of ys) ≤ 1000000 →
    ((i : Item) → IsItem i → BeginsWith r i → n + (length (entries_of xs) + times_of i) ≤ 1000000 → ⊥) →
    ((i : Item) → IsItem i → BeginsWith s i → n + (length (entries_of ys) + times_of i) ≤ 1000000 → ⊥) → xs ≡ ys
first_bad_same n [] [] r s g h e few also bad worse = refl
first_bad_same n [] (y ∷ ys) r s g h e few also bad worse =
    absurd (bad y h.0 (inr (front_of ys ++ s, e ∙ append_assoc (spelling y) (32 ∷ front_of ys) s))
    (omega (arith, length-append (replicate (times_of y) (fiber_of y)) (entries_of ys), length-replicate (times_of y) (fiber_of y))))
first_bad_same n (x ∷ xs) [] r s g h e few also bad worse =
    absurd (worse x g.0 (inr (front_of xs ++ r, sym e ∙ append_assoc (spelling x) (32 ∷ front_of xs) r))
    (omega (arith, length-append (replicate (times_of x) (fiber_of x)) (entries_of xs), length-replicate (times_of x) (fiber_of x))))
first_bad_same n (x ∷ xs) (y ∷ ys) r s g h e few also bad worse =
    let both = cut_same 32 (spelling x) (spelling y) (front_of xs ++ r) (front_of ys ++ s) (no_space x g.0) (no_space y h.0)
    (sym (append_assoc (spelling x) (32 ∷ front_of xs) r) ∙ e ∙ append_assoc (spelling y) (32 ∷ front_of ys) s) in
    let first : x ≡ y = spelling_same x y g.0 h.0 both.0 in
    let times : times_of x ≡ times_of y = ap times_of first in
    let lx = length-append (replicate (times_of x) (fiber_of x)) (entries_of xs) in
    let rx = length-replicate (times_of x) (fiber_of x) in
    let ly = length-append (replicate (times_of y) (fiber_of y)) (entries_of ys) in
    let ry = length-replicate (times_of y) (fiber_of y) in
    let rest : xs ≡ ys = first_bad_same (n + times_of x) xs ys r s g.1 h.1 both.1 (omega (arith, lx, rx)) (omega (arith, ly, ry))
    (λ i p q l. bad i p q (omega (arith, lx, rx))) (λ i p q l. worse i p q (omega (arith, ly, ry))) in
    cc

pub same_place : (text : List ℕ) (p q : ℕ) → IsFirstBad text p → IsFirstBad text q → p ≡ q
same_place text p q a b =
    let same : a.items ≡ b.items =
    first_bad_same 0 a.items b.items a.rest b.rest a.good b.good (sym a.text_is ∙ b.text_is) (omega (arith, a.few)) (omega (arith, b.few))
    (λ i g s l. a.bad i g s (omega (arith, l))) (λ i g s l. b.bad i g s (omega (arith, l))) in
    a.place_is ∙ ap (λ items. length (front_of items)) same ∙ sym b.place_is

pub refuses : {A : Type 0} (text : List ℕ) (r : Result (Vec ℕ A) ScheduleError) → IfOk r (λ v. SpellsEntries text v.items) →
    ((place : ℕ) → r ≡ Err (BadSchedule place) → IsFirstBad text place) → (place : ℕ) → IsFirstBad text place → RefusesAt place r
refuses text (Ok v) found place p b = no_first_bad found.items text p found.good found.text_is (rw (← found.entries_are) found.few) b
refuses text (Err NoMemory) found place p b = tt
refuses text (Err (BadSchedule q)) found place p b = same_place text q p (place q refl) b

-- a text has no other entries than those that are given
pub one_list_from : {A : Type 0} (text : List ℕ) (r : Result (Vec ℕ A) ScheduleError) → IfOk r (λ v. SpellsEntries text v.items) →
    IfOk r (λ v. (entries : List ℕ) → SpellsEntries text entries → entries ≡ v.items)
one_list_from text (Ok v) s = λ entries t.
    t.entries_are ∙ ap entries_of (same_items t.items s.items t.good s.good (sym t.text_is ∙ s.text_is)) ∙ sym s.entries_are
one_list_from text (Err e) s = tt
