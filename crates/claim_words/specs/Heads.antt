-- The refs at the head of a program's text, and the claims that name them.
use Rattle.std.specs.Prelude.{◌≡◌, ◌==◌, ◌||◌, not, ⊤, ℕ, Bool, true, List, [], ◌∷◌, ◌++◌, Some, codes}
use Rattle.std.specs.List.{list_all, slice_get}
use Rattle.every_schedule.specs.declared.claims.ClaimWord.{ClaimWord}
use Rattle.every_schedule.specs.declared.claims.ClaimWord.TheVariants as its
use Rattle.claim_words.specs.declared.words.Joint.{Joint}
use Rattle.claim_words.specs.declared.words.Joint.TheVariants as joints
use Rattle.claim_words.specs.declared.words.SpelledWord.{SpelledWord}
use Rattle.claim_words.specs.declared.words.SpelledWord.TheVariants.{Numbered, Named, Not, Join, World}
use Rattle.claim_words.specs.declared.words.Whole.{Whole}
use Rattle.claim_words.specs.declared.words.Whole.TheVariants as wholes

-- a letter, a digit, or another byte that is neither a bracket nor a space
abbrev pub is_plain : ℕ → Bool
is_plain b = not ((b == 32) || (b == 40) || (b == 41))

abbrev pub ref_front : List ℕ → List ℕ
ref_front x = codes "(ref " ++ (x ++ codes " ")

-- `(ref x v `, which makes a ref before all that follows
abbrev pub ref_head : List ℕ → List ℕ → List ℕ
ref_head x v = ref_front x ++ (v ++ codes " ")

-- `(deferred g `, which makes no ref
abbrev pub deferred_head : List ℕ → List ℕ
deferred_head g = codes "(deferred " ++ (g ++ codes " ")

-- The text is a row of heads. Their refs have these names, in the order in which they are made.
pub data IsHead : List ℕ → List (List ℕ) → Type 0 where
  no_head : IsHead [] []
  a_ref : (t : List ℕ) (names : List (List ℕ)) (x v : List ℕ) → IsHead t names → list_all is_plain x ≡ true →
      list_all is_plain v ≡ true → IsHead (t ++ ref_head x v) (names ++ x ∷ [])
  a_deferred : (t : List ℕ) (names : List (List ℕ)) (g : List ℕ) → IsHead t names → list_all is_plain g ≡ true →
      IsHead (t ++ deferred_head g) names

-- The name is that of the ref of this number: the text begins with a row of heads, whose refs are numbered from 0.
pub record IsRefOf (text name : List ℕ) (number : ℕ) : Type 0 where
  pub front : List ℕ
  pub behind : List ℕ
  pub names : List (List ℕ)
  pub head : IsHead front names
  pub text_is : text ≡ front ++ behind
  pub named : slice_get names number ≡ Some name

-- these are the numbers of the refs of these names
abbrev pub AreNumbersOf : List ℕ → List (List ℕ) → List ℕ → Type 0
AreNumbersOf text [] [] = ⊤
AreNumbersOf text [] (n ∷ ns) = ⊥
AreNumbersOf text (x ∷ xs) [] = ⊥
AreNumbersOf text (x ∷ xs) (n ∷ ns) = IsRefOf text x n × AreNumbersOf text xs ns

abbrev pub joint_word : Joint → ClaimWord
joint_word joints.And = its.And
joint_word joints.Or = its.Or

abbrev pub whole_word : Whole → ClaimWord
whole_word wholes.Deadlock = its.Deadlock
whole_word wholes.Left = its.Left
whole_word wholes.Final = its.Final

-- the words, with these numbers in place of the names of refs
abbrev pub numbered : List SpelledWord → List ℕ → List ClaimWord
numbered [] ns = []
numbered (Numbered n how v ∷ ws) ns = its.Compare n how v ∷ numbered ws ns
numbered (Named how v ∷ ws) [] = its.Compare 0 how v ∷ numbered ws []
numbered (Named how v ∷ ws) (n ∷ ns) = its.Compare n how v ∷ numbered ws ns
numbered (Not ∷ ws) ns = its.Not ∷ numbered ws ns
numbered (Join j ∷ ws) ns = joint_word j ∷ numbered ws ns
numbered (World x ∷ ws) ns = whole_word x ∷ numbered ws ns

-- The words of a claim, with the numbers of its refs in place of their names.
pub record IsNumberedBy (text : List ℕ) (words : List SpelledWord) (names : List (List ℕ)) (it : List ClaimWord)
    : Type 0
  where
    pub numbers : List ℕ
    pub are : AreNumbersOf text names numbers
    pub words_are : it ≡ numbered words numbers
