-- The heads of a text, one more at a time.
use Rattle.std.proofs.Common.{◌≡◌, ℕ, ◌+◌, true, List, [], ◌∷◌, ◌++◌, length, codes, refl, sym, ap, ◌∙◌, subst}
use Rattle.std.proofs.Common.{append_assoc, arith, length-append}
use Rattle.std.specs.Prelude.{Option, Some, None}
use Rattle.std.specs.List.{list_all, slice_get}
use Rattle.claim_words.specs.Heads.{IsHead, IsRefOf, a_deferred, a_ref, deferred_head, is_plain, no_head, ref_head}
use Rattle.claim_words.specs.Private.Steps.{AreHeads, IsHeadText, IsNextHead, made, of_deferred, of_ref}

-- no head yet
pub heads_none : (text : List ℕ) → AreHeads text text 0
heads_none text = record { front = []; names = []; head = no_head; text_is = refl; many = refl }

abbrev with_name : List (List ℕ) → Option (List ℕ) → List (List ℕ)
with_name names (Some x) = names ++ x ∷ []
with_name names None = names

more_head : (front more : List ℕ) (names : List (List ℕ)) (name : Option (List ℕ)) → IsHead front names → IsHeadText more name →
    IsHead (front ++ more) (with_name names name)
more_head front more names name h (of_ref x v px pv) = a_ref front names x v h px pv
more_head front more names name h (of_deferred g pg) = a_deferred front names g h pg

more_names : (names : List (List ℕ)) (name : Option (List ℕ)) (n : ℕ) → length names ≡ n → length (with_name names name) ≡ n + made name
more_names names (Some x) n e = length-append names (x ∷ []) ∙ ap (λ m. m + 1) e
more_names names None n e = omega arith

-- one more head
pub heads_more : (text rest behind : List ℕ) (name : Option (List ℕ)) (n m : ℕ) → AreHeads text rest n → IsNextHead rest name behind →
    m ≡ n + made name → AreHeads text behind m
heads_more text rest behind name n m h next e = record {
  front = h.front ++ next.front;
  names = with_name h.names name;
  head = more_head h.front next.front h.names name h.head next.is;
  text_is = h.text_is ∙ ap (λ r. h.front ++ r) next.text_is ∙ sym (append_assoc h.front next.front behind);
  many = more_names h.names name n h.many ∙ sym e;
}

last_get : (names : List (List ℕ)) (x : List ℕ) → slice_get (names ++ x ∷ []) (length names) ≡ Some x
last_get [] x = refl
last_get (y ∷ names) x = last_get names x

-- the next head makes the ref of the number `n`
pub ref_found : (text rest behind x : List ℕ) (name : Option (List ℕ)) (n : ℕ) → AreHeads text rest n → IsNextHead rest name behind →
    name ≡ Some x → IsRefOf text x n
ref_found text rest behind x name n h next e = record {
  front = h.front ++ next.front;
  behind = behind;
  names = h.names ++ x ∷ [];
  head = subst (λ o. IsHead (h.front ++ next.front) (with_name h.names o)) e (more_head h.front next.front h.names name h.head next.is);
  text_is = h.text_is ∙ ap (λ r. h.front ++ r) next.text_is ∙ sym (append_assoc h.front next.front behind);
  named = subst (λ k. slice_get (h.names ++ x ∷ []) k ≡ Some x) h.many (last_get h.names x);
}

-- a head from its words
pub ref_next : (text inside x behind_x v behind : List ℕ) → text ≡ codes "(ref " ++ inside → inside ≡ x ++ (codes " " ++ behind_x) →
    list_all is_plain x ≡ true → behind_x ≡ v ++ (codes " " ++ behind) → list_all is_plain v ≡ true → IsNextHead text (Some x) behind
ref_next text inside x behind_x v behind e f px g pv = record {
  front = ref_head x v;
  is = of_ref x v px pv;
  text_is = e ∙ ap (λ r. codes "(ref " ++ r) (f ∙ ap (λ r. x ++ (codes " " ++ r)) g)
      ∙ simp (append_assoc);
}

pub deferred_next : (text inside g behind : List ℕ) → text ≡ codes "(deferred " ++ inside → inside ≡ g ++ (codes " " ++ behind) →
    list_all is_plain g ≡ true → IsNextHead text None behind
deferred_next text inside g behind e f pg = record {
  front = deferred_head g;
  is = of_deferred g pg;
  text_is = e ∙ ap (λ r. codes "(deferred " ++ r) f ∙ simp (append_assoc);
}
