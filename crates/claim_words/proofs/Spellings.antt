-- Spelled claims, from their parts.
use Rattle.std.proofs.Common.{◌≡◌, ℕ, ℤ, List, [], ◌∷◌, ◌++◌, codes}
use Rattle.std.proofs.Math.Logic.{∥∥₁_map, ∥∥₁_map₂}
use Rattle.std.specs.Fmt.{decimal}
use Rattle.every_schedule.specs.declared.claims.Comparison.{Comparison}
use Rattle.claim_words.specs.declared.words.Joint.{Joint}
use Rattle.claim_words.specs.declared.words.SpelledWord.{SpelledWord}
use Rattle.claim_words.specs.declared.words.SpelledWord.TheVariants.{Numbered, Named, Not, Join, World}
use Rattle.claim_words.specs.declared.words.Whole.{Whole}
use Rattle.claim_words.specs.Spelling.{IsSpelling, Spells, claim, compared_text, joint_text, operands, whole_text}
use Rattle.claim_words.specs.Spelling.{by_number, by_name, by_world, negates, joins, first, more}

pub spelled_number : (n : ℕ) (how : Comparison) (v : ℤ) (subject text : List ℕ) (before words : List SpelledWord) (names : List (List ℕ)) →
    text ≡ compared_text subject how v → subject ≡ decimal n → words ≡ before ++ Numbered n how v ∷ [] → before ≡ [] → names ≡ [] →
    IsSpelling claim text words names
spelled_number n how v subject text before words names t s w b x = rw (t, s, w, b, x) (∣ by_number n how v ∣₁)

pub spelled_name : (name : List ℕ) (how : Comparison) (v : ℤ) (text : List ℕ) (before words : List SpelledWord) (names : List (List ℕ)) →
    text ≡ compared_text name how v → words ≡ before ++ Named how v ∷ [] → before ≡ [] → names ≡ name ∷ [] →
    IsSpelling claim text words names
spelled_name name how v text before words names t w b x = rw (t, w, b, x) (∣ by_name name how v ∣₁)

pub spelled_world : (x : Whole) (text : List ℕ) (before words : List SpelledWord) (names : List (List ℕ)) → text ≡ whole_text x →
    words ≡ before ++ World x ∷ [] → before ≡ [] → names ≡ [] → IsSpelling claim text words names
spelled_world x text before words names t w b n = rw (t, w, b, n) (∣ by_world x ∣₁)

pub spelled_not : (t text : List ℕ) (ws words : List SpelledWord) (names : List (List ℕ)) → IsSpelling claim t ws names →
    text ≡ codes "(not " ++ (t ++ codes ")") → words ≡ ws ++ Not ∷ [] → IsSpelling claim text words names
spelled_not t text ws words names h e f = rw (e, f) (∥∥₁_map h (λ (s : Spells claim t ws names). negates t ws names s))

pub spelled_joint : (j : Joint) (t text : List ℕ) (ws : List SpelledWord) (names : List (List ℕ)) → IsSpelling (operands j) t ws names →
    text ≡ codes "(" ++ (joint_text j ++ (t ++ codes ")")) → IsSpelling claim text ws names
spelled_joint j t text ws names h e = rw e (∥∥₁_map h (λ (s : Spells (operands j) t ws names). joins j t ws names s))

pub spelled_first : (j : Joint) (t text : List ℕ) (ws : List SpelledWord) (names : List (List ℕ)) → IsSpelling claim t ws names →
    text ≡ codes " " ++ t → IsSpelling (operands j) text ws names
spelled_first j t text ws names h e = rw e (∥∥₁_map h (λ (s : Spells claim t ws names). first j t ws names s))

pub spelled_more : (j : Joint) (t u text : List ℕ) (ws vs both words : List SpelledWord) (xs ys names : List (List ℕ)) →
    IsSpelling (operands j) t ws xs → IsSpelling claim u vs ys → text ≡ t ++ (codes " " ++ u) → both ≡ ws ++ vs →
    words ≡ both ++ Join j ∷ [] → names ≡ xs ++ ys → IsSpelling (operands j) text words names
spelled_more j t u text ws vs both words xs ys names h k e f g x =
    rw (e, g, f, x) (∥∥₁_map₂ h k (λ (r : Spells (operands j) t ws xs) (s : Spells claim u vs ys). more j t u ws vs xs ys r s))
