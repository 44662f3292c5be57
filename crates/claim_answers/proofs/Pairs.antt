-- Lists that grow by one element at a time.
use Rattle.std.proofs.Common.{◌≡◌, ℕ, zero, suc, ◌+◌, ◌<◌, ◌≤◌, true, false, List, [], ◌∷◌, ◌++◌, length, drop, take, map, get_or}
use Rattle.std.proofs.Common.{refl, sym, ap, ◌∙◌, subst, add-one, append_assoc, arith, drop-cons, inl, inr, length-append}
use Rattle.std.specs.Prelude.{◌||◌, ◌⊎◌, Some}
use Rattle.std.specs.Borrow.{Bor}
use Rattle.std.specs.List.{slice_get}
use Rattle.std.proofs.lemmas.Bool.{cases_lt}
use Rattle.std.proofs.lemmas.List.{drop-append-le, drop_all, get_or-map, length-map, map-append, take-append-le}
use Rattle.claim_words.specs.Spacing.{spaced_text}
use Rattle.claim_answers.specs.declared.asked.Asked.{Asked}
use Rattle.claim_answers.specs.declared.asked.Rule.{Rule}
use Rattle.claim_answers.specs.declared.judging.Verdict.{Verdict}
use Rattle.claim_answers.specs.Claims.{Pairwise, Question, a_pair, asked_texts, no_pair, question_of}
use Rattle.claim_answers.specs.Verdicts.{AreLines, a_line, is_refuted, one_refuted}

take_suc : {A : Type 0} (xs : List A) (i : ℕ) (x : A) → i < length xs → x ≡ get_or xs i x → take (suc i) xs ≡ take i xs ++ x ∷ []
take_suc [] i x low at = absurd (omega arith)
take_suc (y ∷ xs) zero x low at = ap (λ z. z ∷ []) (sym at)
take_suc (y ∷ xs) (suc i) x low at = ap (λ l. y ∷ l) (take_suc xs i x (omega arith) at)

pub take_here : {A : Type 0} (xs : List A) (i : ℕ) (x : A) → i < length xs → x ≡ get_or xs i x → take (i + 1) xs ≡ take i xs ++ x ∷ []
take_here xs i x low at = rw add-one (take_suc xs i x low at)

pub take_whole : {A : Type 0} (xs : List A) (i : ℕ) → length xs ≤ i → take i xs ≡ xs
take_whole [] zero past = refl
take_whole [] (suc i) past = refl
take_whole (x ∷ xs) zero past = absurd (omega arith)
take_whole (x ∷ xs) (suc i) past = ap (λ l. x ∷ l) (take_whole xs i (omega arith))

get_suc : {A : Type 0} (xs : List A) (i : ℕ) → i < length xs → (x : A) × (slice_get xs i ≡ Some x) × (take (suc i) xs ≡ take i xs ++ x ∷ [])
get_suc [] i low = absurd (omega arith)
get_suc (x ∷ xs) zero low = (x, refl, refl)
get_suc (x ∷ xs) (suc i) low =
    let r = get_suc xs i (omega arith) in (r.0, r.1, ap (λ l. x ∷ l) r.2)

-- the element at an index within the list
pub get_here : {A : Type 0} (xs : List A) (i : ℕ) → i < length xs → (x : A) × (slice_get xs i ≡ Some x) × (take (i + 1) xs ≡ take i xs ++ x ∷ [])
get_here xs i low = let r = get_suc xs i low in (r.0, r.1, rw add-one r.2)

pub pairs_more : {A B : Type 0} (R : A → B → Type 0) (xs : List A) (ys new : List B) (i : ℕ) (x : A) (y : B) → i < length xs → x ≡ get_or xs i x →
    new ≡ ys ++ y ∷ [] → R x y → Pairwise R (take i xs) ys → Pairwise R (take (i + 1) xs) new
pairs_more R xs ys new i x y low at is r h =
    subst (λ l. Pairwise R l new) (sym (take_here xs i x low at)) (subst (λ l. Pairwise R (take i xs ++ x ∷ []) l) (sym is) (a_pair (take i xs) ys x y h r))

pub pairs_found : {A B : Type 0} (R : A → B → Type 0) (xs : List A) (ys new : List B) (i : ℕ) (y : B) → i < length xs →
    new ≡ ys ++ y ∷ [] → ((x : A) → slice_get xs i ≡ Some x → R x y) → Pairwise R (take i xs) ys → Pairwise R (take (i + 1) xs) new
pairs_found R xs ys new i y low is r h =
    let x = get_here xs i low in
    subst (λ l. Pairwise R l new) (sym x.2) (subst (λ l. Pairwise R (take i xs ++ x.0 ∷ []) l) (sym is) (a_pair (take i xs) ys x.0 y h (r x.0 x.1)))

pub pairs_all : {A B : Type 0} (R : A → B → Type 0) (xs : List A) (ys : List B) (i : ℕ) → length xs ≤ i → Pairwise R (take i xs) ys → Pairwise R xs ys
pairs_all R xs ys i past h = subst (λ l. Pairwise R l ys) (take_whole xs i past) h

pub pairs_length : {A B : Type 0} (R : A → B → Type 0) (xs : List A) (ys : List B) → Pairwise R xs ys → length xs ≡ length ys
pairs_length R xs ys no_pair = refl
pairs_length R xs ys (a_pair all bs a b h r) =
    length-append all (a ∷ []) ∙ ap (λ n. n + 1) (pairs_length R all bs h) ∙ sym (length-append bs (b ∷ []))

pub lines_more : (L : Asked → Verdict → List ℕ → Type 0) (all : List Asked) (vs : List Verdict) (text new line : List ℕ) (i : ℕ) (a : Asked) (v : Verdict) →
    i < length all → a ≡ get_or all i a → i < length vs → v ≡ get_or vs i v → new ≡ text ++ line → L a v line →
    AreLines L (take i all) (take i vs) text → AreLines L (take (i + 1) all) (take (i + 1) vs) new
lines_more L all vs text new line i a v low at low' at' is l h =
    subst (λ t. AreLines L (take (i + 1) all) (take (i + 1) vs) t) (sym is)
    (subst (λ xs. AreLines L xs (take (i + 1) vs) (text ++ line)) (sym (take_here all i a low at))
    (subst (λ ys. AreLines L (take i all ++ a ∷ []) ys (text ++ line)) (sym (take_here vs i v low' at'))
    (a_line (take i all) (take i vs) text a v line h l)))

pub lines_all : (L : Asked → Verdict → List ℕ → Type 0) (all : List Asked) (vs : List Verdict) (text : List ℕ) (i : ℕ) → length all ≤ i → length vs ≤ i →
    AreLines L (take i all) (take i vs) text → AreLines L all vs text
lines_all L all vs text i past past' h =
    subst (λ xs. AreLines L xs vs text) (take_whole all i past) (subst (λ ys. AreLines L (take i all) ys text) (take_whole vs i past') h)

-- ---- a part of two lists whose elements belong together
module _ {A B : Type 0} (R : A → B → Type 0) (n : ℕ) where
  take_more : (all : List A) (bs : List B) (a : A) (b : B) → Pairwise R all bs → R a b → length all ≡ length bs →
      Pairwise R (take n all) (take n bs) → (n < length all + 1) ⊎ (length all + 1 ≤ n) →
      Pairwise R (take n (all ++ a ∷ [])) (take n (bs ++ b ∷ []))
  take_more all bs a b h r same before (inl low) =
      subst (λ l. Pairwise R l (take n (bs ++ b ∷ []))) (sym (take-append-le n all (a ∷ []) (omega arith)))
      (subst (λ l. Pairwise R (take n all) l) (sym (take-append-le n bs (b ∷ []) (omega arith))) before)
  take_more all bs a b h r same before (inr past) =
      subst (λ l. Pairwise R l (take n (bs ++ b ∷ []))) (sym (take_whole (all ++ a ∷ []) n (omega (arith, length-append all (a ∷ [])))))
      (subst (λ l. Pairwise R (all ++ a ∷ []) l) (sym (take_whole (bs ++ b ∷ []) n (omega (arith, length-append bs (b ∷ [])))))
      (a_pair all bs a b h r))

  pub pairs_take : (xs : List A) (ys : List B) → Pairwise R xs ys → Pairwise R (take n xs) (take n ys)
  pairs_take xs ys no_pair =
      subst (λ l. Pairwise R l (take n [])) (sym (take_whole [] n (omega arith)))
      (subst (λ l. Pairwise R [] l) (sym (take_whole [] n (omega arith))) no_pair)
  pairs_take xs ys (a_pair all bs a b h r) =
      take_more all bs a b h r (pairs_length R all bs h) (pairs_take all bs h) (cases_lt n (length all + 1))

  drop_more : (all : List A) (bs : List B) (a : A) (b : B) → R a b → length all ≡ length bs →
      Pairwise R (drop n all) (drop n bs) → (n < length all + 1) ⊎ (length all + 1 ≤ n) →
      Pairwise R (drop n (all ++ a ∷ [])) (drop n (bs ++ b ∷ []))
  drop_more all bs a b r same behind (inl low) =
      subst (λ l. Pairwise R l (drop n (bs ++ b ∷ []))) (sym (drop-append-le n all (a ∷ []) (omega arith)))
      (subst (λ l. Pairwise R (drop n all ++ a ∷ []) l) (sym (drop-append-le n bs (b ∷ []) (omega arith)))
      (a_pair (drop n all) (drop n bs) a b behind r))
  drop_more all bs a b r same behind (inr past) =
      subst (λ l. Pairwise R l (drop n (bs ++ b ∷ []))) (sym (drop_all n (all ++ a ∷ []) (omega (arith, length-append all (a ∷ [])))))
      (subst (λ l. Pairwise R [] l) (sym (drop_all n (bs ++ b ∷ []) (omega (arith, length-append bs (b ∷ []))))) no_pair)

  pub pairs_drop : (xs : List A) (ys : List B) → Pairwise R xs ys → Pairwise R (drop n xs) (drop n ys)
  pairs_drop xs ys no_pair =
      subst (λ l. Pairwise R l (drop n [])) (sym (drop_all n [] (omega arith)))
      (subst (λ l. Pairwise R [] l) (sym (drop_all n [] (omega arith))) no_pair)
  pairs_drop xs ys (a_pair all bs a b h r) =
      drop_more all bs a b r (pairs_length R all bs h) (pairs_drop all bs h) (cases_lt n (length all + 1))

-- the front and the back of two lists, the first of which is put together from two
pub pairs_front : {A B : Type 0} (R : A → B → Type 0) (xs ys : List A) (vs : List B) → Pairwise R (xs ++ ys) vs →
    Pairwise R xs (take (length xs) vs)
pairs_front R xs ys vs h =
    subst (λ l. Pairwise R l (take (length xs) vs)) (take-append-le (length xs) xs ys (omega arith) ∙ take_whole xs (length xs) (omega arith))
    (pairs_take R (length xs) (xs ++ ys) vs h)

pub pairs_back : {A B : Type 0} (R : A → B → Type 0) (xs ys : List A) (vs : List B) → Pairwise R (xs ++ ys) vs →
    Pairwise R ys (drop (length xs) vs)
pairs_back R xs ys vs h =
    subst (λ l. Pairwise R l (drop (length xs) vs))
    (drop-append-le (length xs) xs ys (omega arith) ∙ ap (λ l. l ++ ys) (drop_all (length xs) xs (omega arith)))
    (pairs_drop R (length xs) (xs ++ ys) vs h)

-- as many as twice the elements of a list, if the list comes first and then its image
pub twice : {A : Type 0} (f : A → A) (xs all : List A) (n : ℕ) → n ≡ length xs → all ≡ xs ++ map f xs → length all ≡ n + n
twice f xs all n e is =
    ap length is ∙ length-append xs (map f xs) ∙ ap (λ m. length xs + m) (length-map xs f) ∙ ap (λ m. m + m) (sym e)

-- ---- the texts of claims
pub asked_more : (rule : Rule) (old before new : List Asked) (texts : List (List ℕ)) (i : ℕ) (t : List ℕ) → i < length texts → t ≡ get_or texts i t →
    map question_of before ≡ map question_of old ++ asked_texts rule (take i texts) →
    map question_of new ≡ map question_of before ++ asked_texts rule (t ∷ []) →
    map question_of new ≡ map question_of old ++ asked_texts rule (take (i + 1) texts)
asked_more rule old before new texts i t low at so one =
    let f : List ℕ → Question = λ t. record { rule = rule; text = spaced_text t } in
    one ∙ ap (λ l. l ++ asked_texts rule (t ∷ [])) so ∙ append_assoc (map question_of old) (asked_texts rule (take i texts)) (asked_texts rule (t ∷ []))
    ∙ ap (λ l. map question_of old ++ l) (sym (map-append f (take i texts) (t ∷ [])) ∙ ap (map f) (sym (take_here texts i t low at)))

pub asked_next : (rule : Rule) (old before new : List Asked) (texts : List (Bor (List ℕ))) (i : ℕ) (d : Bor (List ℕ)) → i < length texts →
    map question_of before ≡ map question_of old ++ asked_texts rule (take i (map (λ s. s.now) texts)) →
    map question_of new ≡ map question_of before ++ asked_texts rule ((get_or texts i d).now ∷ []) →
    map question_of new ≡ map question_of old ++ asked_texts rule (take (i + 1) (map (λ s. s.now) texts))
asked_next rule old before new texts i d low so one =
    let t = (get_or texts i d).now in
    asked_more rule old before new (map (λ s. s.now) texts) i t (subst (λ n. i < n) (sym (length-map texts (λ (s : Bor (List ℕ)). s.now))) low)
    (sym (get_or-map (λ (s : Bor (List ℕ)). s.now) texts i d t low)) so one

-- ---- whether a claim is refuted
from_here : {A : Type 0} (all : List A) (i : ℕ) (a : A) → i < length all → a ≡ get_or all i a → drop i all ≡ a ∷ drop (i + 1) all
from_here all i a low is = rw add-one (drop-cons all i a low ∙ ap (λ x. x ∷ drop (suc i) all) (sym is))

refuted_here : (all : List Asked) (vs : List Verdict) (i : ℕ) (a : Asked) (v : Verdict) → i < length all → a ≡ get_or all i a → i < length vs →
    v ≡ get_or vs i v → one_refuted (drop i all) (drop i vs) ≡ is_refuted a.rule v || one_refuted (drop (i + 1) all) (drop (i + 1) vs)
refuted_here all vs i a v low at low' at' =
    ap (λ l. one_refuted l (drop i vs)) (from_here all i a low at) ∙ ap (one_refuted (a ∷ drop (i + 1) all)) (from_here vs i v low' at')

pub refuted_now : (all : List Asked) (vs : List Verdict) (i : ℕ) (a : Asked) (v : Verdict) → i < length all → a ≡ get_or all i a → i < length vs →
    v ≡ get_or vs i v → is_refuted a.rule v ≡ true → one_refuted (drop i all) (drop i vs) ≡ one_refuted all vs → true ≡ one_refuted all vs
refuted_now all vs i a v low at low' at' so h =
    sym (ap (λ b. b || one_refuted (drop (i + 1) all) (drop (i + 1) vs)) so) ∙ sym (refuted_here all vs i a v low at low' at') ∙ h

pub refuted_later : (all : List Asked) (vs : List Verdict) (i : ℕ) (a : Asked) (v : Verdict) → i < length all → a ≡ get_or all i a → i < length vs →
    v ≡ get_or vs i v → is_refuted a.rule v ≡ false → one_refuted (drop i all) (drop i vs) ≡ one_refuted all vs →
    one_refuted (drop (i + 1) all) (drop (i + 1) vs) ≡ one_refuted all vs
refuted_later all vs i a v low at low' at' so h =
    sym (ap (λ b. b || one_refuted (drop (i + 1) all) (drop (i + 1) vs)) so) ∙ sym (refuted_here all vs i a v low at low' at') ∙ h

pub refuted_never : (all : List Asked) (vs : List Verdict) (i : ℕ) → length all ≤ i → one_refuted (drop i all) (drop i vs) ≡ one_refuted all vs →
    false ≡ one_refuted all vs
refuted_never all vs i past h = sym (ap (λ l. one_refuted l (drop i vs)) (drop_all i all past)) ∙ h
