-- The heads of a text, one after another.
use Rattle.std.specs.Prelude.{◌≡◌, ◌++◌, true, false, Bool, ℕ, List, [], ◌∷◌, Option, Some, None, length, take}
use Rattle.std.specs.List.{list_all}
use Rattle.claim_words.specs.Heads.{IsHead, deferred_head, is_plain, joint_word, ref_head, whole_word}
use Rattle.every_schedule.specs.declared.claims.ClaimWord.{ClaimWord}
use Rattle.every_schedule.specs.declared.claims.ClaimWord.TheVariants as its
use Rattle.claim_words.specs.declared.words.SpelledWord.{SpelledWord}
use Rattle.claim_words.specs.declared.words.SpelledWord.TheVariants.{Numbered, Named, Not, Join, World}

-- the first `n` bytes are plain
abbrev pub IsPlainFront : List ℕ → ℕ → Type 0
IsPlainFront text n = list_all is_plain (take n text) ≡ true

-- these bytes are a head; the name is that of its ref, if it makes one
pub data IsHeadText : List ℕ → Option (List ℕ) → Type 0 where
  of_ref : (x v : List ℕ) → list_all is_plain x ≡ true → list_all is_plain v ≡ true → IsHeadText (ref_head x v) (Some x)
  of_deferred : (g : List ℕ) → list_all is_plain g ≡ true → IsHeadText (deferred_head g) None

-- the text is a head and the rest; the name is that of the head's ref, if it makes one
pub record IsNextHead (text : List ℕ) (name : Option (List ℕ)) (rest : List ℕ) : Type 0 where
  pub front : List ℕ
  pub is : IsHeadText front name
  pub text_is : text ≡ front ++ rest

-- the number of refs that a head makes
abbrev pub made : Option (List ℕ) → ℕ
made None = 0
made (Some x) = 1

-- the text is a row of heads, which make `number` refs, and the rest
pub record AreHeads (text rest : List ℕ) (number : ℕ) : Type 0 where
  pub front : List ℕ
  pub names : List (List ℕ)
  pub head : IsHead front names
  pub text_is : text ≡ front ++ rest
  pub many : length names ≡ number

-- the first number, or 0 if there is none
abbrev pub first_of : List ℕ → ℕ
first_of [] = 0
first_of (n ∷ ns) = n

abbrev pub is_named : SpelledWord → Bool
is_named (Named how v) = true
is_named (Numbered n how v) = false
is_named Not = false
is_named (Join j) = false
is_named (World x) = false

-- a word, with the first of these numbers in place of the name of its ref
abbrev pub claim_word : List ℕ → SpelledWord → ClaimWord
claim_word ns (Numbered n how v) = its.Compare n how v
claim_word ns (Named how v) = its.Compare (first_of ns) how v
claim_word ns Not = its.Not
claim_word ns (Join j) = joint_word j
claim_word ns (World x) = whole_word x
