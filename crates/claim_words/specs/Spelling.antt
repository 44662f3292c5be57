-- How a claim is spelled, and which words it has.
use Rattle.std.specs.Prelude.{ℕ, ℤ, List, [], ◌∷◌, ◌++◌, codes}
use Rattle.std.specs.Fmt.{decimal, signed_decimal}
use Rattle.every_schedule.specs.declared.claims.Comparison.{Comparison}
use Rattle.every_schedule.specs.declared.claims.Comparison.TheVariants as is
use Rattle.claim_words.specs.declared.words.Joint.{Joint}
use Rattle.claim_words.specs.declared.words.Joint.TheVariants as joints
use Rattle.claim_words.specs.declared.words.SpelledWord.{SpelledWord}
use Rattle.claim_words.specs.declared.words.SpelledWord.TheVariants.{Numbered, Named, Not, Join, World}
use Rattle.claim_words.specs.declared.words.Whole.{Whole}
use Rattle.claim_words.specs.declared.words.Whole.TheVariants.{Deadlock, Left, Final}

abbrev pub comparison_text : Comparison → List ℕ
comparison_text is.Equal = codes "="
comparison_text is.Differs = codes "!="
comparison_text is.Less = codes "<"
comparison_text is.AtMost = codes "<="
comparison_text is.Greater = codes ">"
comparison_text is.AtLeast = codes ">="

abbrev pub joint_text : Joint → List ℕ
joint_text joints.And = codes "and"
joint_text joints.Or = codes "or"

abbrev pub whole_text : Whole → List ℕ
whole_text Deadlock = codes "deadlock"
whole_text Left = codes "left"
whole_text Final = codes "final"

-- a comparison of a ref with a number, as `(< inside 2)`; `subject` is the spelling of the ref
abbrev pub compared_text : List ℕ → Comparison → ℤ → List ℕ
compared_text subject how v =
    codes "(" ++ (comparison_text how ++ (codes " " ++ (subject ++ (codes " " ++ (signed_decimal v ++ codes ")")))))

-- a claim, or the operands of a joint, each with a space before it
pub data Part : Type 0 where
  claim : Part
  operands : Joint → Part

-- The text spells the words, which are in postfix order, and names these refs, in the order of the comparisons.
pub data Spells : Part → List ℕ → List SpelledWord → List (List ℕ) → Type 0 where
  by_number : (n : ℕ) (how : Comparison) (v : ℤ) →
      Spells claim (compared_text (decimal n) how v) (Numbered n how v ∷ []) []
  by_name : (x : List ℕ) (how : Comparison) (v : ℤ) → Spells claim (compared_text x how v) (Named how v ∷ []) (x ∷ [])
  by_world : (x : Whole) → Spells claim (whole_text x) (World x ∷ []) []
  negates : (t : List ℕ) (ws : List SpelledWord) (xs : List (List ℕ)) → Spells claim t ws xs →
      Spells claim (codes "(not " ++ (t ++ codes ")")) (ws ++ Not ∷ []) xs
  joins : (j : Joint) (t : List ℕ) (ws : List SpelledWord) (xs : List (List ℕ)) → Spells (operands j) t ws xs →
      Spells claim (codes "(" ++ (joint_text j ++ (t ++ codes ")"))) ws xs
  first : (j : Joint) (t : List ℕ) (ws : List SpelledWord) (xs : List (List ℕ)) → Spells claim t ws xs →
      Spells (operands j) (codes " " ++ t) ws xs
  more : (j : Joint) (t u : List ℕ) (ws vs : List SpelledWord) (xs ys : List (List ℕ)) →
      Spells (operands j) t ws xs → Spells claim u vs ys →
      Spells (operands j) (t ++ (codes " " ++ u)) ((ws ++ vs) ++ Join j ∷ []) (xs ++ ys)

-- the text spells the words, and names these refs
abbrev pub IsSpelling : Part → List ℕ → List SpelledWord → List (List ℕ) → Type 0
IsSpelling part text words names = ∥ Spells part text words names ∥₁
