-- The words of a claim with numbers, one more at a time.
use Rattle.std.proofs.Common.{◌≡◌, ℕ, suc, ◌+◌, ◌<◌, Bool, true, false, List, [], ◌∷◌, ◌++◌, length, drop, get_or, map, refl, take}
use Rattle.std.proofs.Common.{sym, ap, ◌∙◌, add-one, append_assoc, drop-cons}
use Rattle.std.proofs.lemmas.List.{drop-drop, map_more}
use Rattle.std.specs.Borrow.{Bor}
use Rattle.every_schedule.specs.declared.claims.ClaimWord.{ClaimWord}
use Rattle.claim_words.specs.declared.words.SpelledWord.{SpelledWord}
use Rattle.claim_words.specs.declared.words.SpelledWord.TheVariants.{Numbered, Named, Not, Join, World}
use Rattle.claim_words.specs.Heads.{AreNumbersOf, IsRefOf, numbered}
use Rattle.claim_words.specs.Private.Steps.{claim_word, is_named}

-- the numbers that are left after a word
abbrev pub left : Bool → List ℕ → List ℕ
left true ns = drop 1 ns
left false ns = ns

one : (w : SpelledWord) (ws : List SpelledWord) (ns : List ℕ) → numbered (w ∷ ws) ns ≡ claim_word ns w ∷ numbered ws (left (is_named w) ns)
one (Numbered n how v) ws ns = refl
one (Named how v) ws [] = refl
one (Named how v) ws (n ∷ ns) = refl
one Not ws ns = refl
one (Join j) ws ns = refl
one (World x) ws ns = refl

pub left_named : (named : Bool) (n m : ℕ) (ns : List ℕ) → named ≡ true → m ≡ n + 1 → left named (drop n ns) ≡ drop m ns
left_named named n m ns e f = rw (e, f) (drop-drop 1 n ns)

pub left_other : (named : Bool) (n m : ℕ) (ns : List ℕ) → named ≡ false → m ≡ n → left named (drop n ns) ≡ drop m ns
left_other named n m ns e f = rw (e, f) refl

-- one more word
pub one_word : (all new total : List ClaimWord) (ws : List SpelledWord) (i : ℕ) (w : SpelledWord) (x : ClaimWord) (ns rest : List ℕ) →
    i < length ws → w ≡ get_or ws i w → x ≡ claim_word ns w → new ≡ all ++ x ∷ [] → left (is_named w) ns ≡ rest →
    all ++ numbered (drop i ws) ns ≡ total → new ++ numbered (drop (i + 1) ws) rest ≡ total
one_word all new total ws i w x ns rest low at is more behind so =
    let here : drop i ws ≡ w ∷ drop (i + 1) ws = rw add-one (drop-cons ws i w low ∙ ap (λ y. y ∷ drop (suc i) ws) (sym at)) in
    ap (λ l. l ++ numbered (drop (i + 1) ws) rest) more
    ∙ append_assoc all (x ∷ []) (numbered (drop (i + 1) ws) rest)
    ∙ ap (λ y. all ++ y ∷ numbered (drop (i + 1) ws) rest) is
    ∙ ap (λ r. all ++ claim_word ns w ∷ numbered (drop (i + 1) ws) r) (sym behind)
    ∙ ap (λ l. all ++ l) (sym (one w (drop (i + 1) ws) ns))
    ∙ ap (λ l. all ++ numbered l ns) (sym here)
    ∙ so

-- ---- the numbers of names
numbers_more : (text : List ℕ) (xs : List (List ℕ)) (ns : List ℕ) (x : List ℕ) (n : ℕ) → AreNumbersOf text xs ns → IsRefOf text x n →
    AreNumbersOf text (xs ++ x ∷ []) (ns ++ n ∷ [])
numbers_more text [] [] x n h r = (r, tt)
numbers_more text [] (m ∷ ns) x n h r = absurd h
numbers_more text (y ∷ xs) [] x n h r = absurd h
numbers_more text (y ∷ xs) (m ∷ ns) x n h r = (h.0, numbers_more text xs ns x n h.1 r)

pub numbers_next : (text : List ℕ) (names : List (Bor (List ℕ))) (i : ℕ) (d : Bor (List ℕ)) (ns new : List ℕ) (n : ℕ) → i < length names →
    new ≡ ns ++ n ∷ [] → AreNumbersOf text (map (λ x. x.now) (take i names)) ns → IsRefOf text (get_or names i d).now n →
    AreNumbersOf text (map (λ x. x.now) (take (i + 1) names)) new
numbers_next text names i d ns new n low is h r =
    rw (map_more (λ (x : Bor (List ℕ)). x.now) names i d low, is) (numbers_more text (map (λ x. x.now) (take i names)) ns (get_or names i d).now n h r)
