-- What is asked of claims, and what decides them.
use Rattle.std.specs.Prelude.{◌≡◌, ◌<◌, ◌≤◌, ⊤, ℕ, ℤ, List, [], ◌∷◌, ◌++◌, length, map}
use Rattle.std.specs.List.{All, fold}
use Rattle.derived_ops.specs.Tree.{Tree}
use Rattle.cell_registry.specs.declared.limits.Limits.{Limits}
use Rattle.every_schedule.specs.declared.claims.ClaimWord.{ClaimWord}
use Rattle.every_schedule.specs.declared.claims.ClaimWord.TheVariants as its
use Rattle.every_schedule.specs.declared.claims.Comparison.TheVariants as is
use Rattle.every_schedule.specs.Claims.{Meets}
use Rattle.claim_words.specs.Heads.{IsNumberedBy}
use Rattle.claim_words.specs.MadeRefs.{IsMade}
use Rattle.claim_words.specs.Spacing.{spaced_text}
use Rattle.claim_answers.specs.declared.asked.Asked.{Asked}
use Rattle.claim_answers.specs.declared.asked.Rule.{Rule}
use Rattle.claim_answers.specs.declared.asked.Rule.TheVariants.{Always, Never, Reach}
use Rattle.claim_answers.specs.declared.judging.Verdict.{Verdict}
use Rattle.claim_answers.specs.declared.judging.Verdict.TheVariants.{Moment, NoMoment, Undecided}

-- ---- what is asked
-- what is asked of a claim, and its text without the spaces that mean nothing
pub record Question : Type 0 where
  pub rule : Rule
  pub text : List ℕ

abbrev pub question_of : Asked → Question
question_of a = record { rule = a.rule; text = a.claim.text.items }

-- a run that makes at most `refs` refs makes each ref that these claims name by its number
abbrev pub AreMade : (refs : ℕ) → List Asked → Type 0
AreMade refs asked = All (λ a. All (IsMade refs) a.claim.words.items) asked

-- the questions of these texts under one rule
abbrev pub asked_texts : Rule → List (List ℕ) → List Question
asked_texts rule texts = map (λ t. record { rule = rule; text = spaced_text t }) texts

-- the questions of the three options, one after the other
abbrev pub questions : (always never reach : List (List ℕ)) → List Question
questions always never reach = asked_texts Always always ++ (asked_texts Never never ++ asked_texts Reach reach)

-- ---- what decides a claim
-- the words that are added to those of a claim, so that they are true in a world that decides it
abbrev pub turning : Rule → List ClaimWord
turning Always = its.Not ∷ []
turning Never = []
turning Reach = []

-- these words decide a claim on the program of this text: a claim on every moment is decided by a world that doesn't
-- meet it, another claim by a world that meets it
pub record IsSought (text : List ℕ) (a : Asked) (it : List ClaimWord) : Type 0 where
  pub words : List ClaimWord
  pub numbered : IsNumberedBy text a.claim.words.items (map (λ x. x.now) a.claim.names.items) words
  pub it_is : it ≡ words ++ turning a.rule

-- ---- when a claim is checked
-- the words of `all`, and that the ref has this value or another; both are true if all refs were set
abbrev pub any_more : (all : List ClaimWord) → ℕ → ℤ → List ClaimWord
any_more [] r v = its.Compare r is.Equal v ∷ its.Compare r is.Differs v ∷ its.Or ∷ []
any_more (w ∷ ws) r v =
    (w ∷ ws) ++ its.Compare r is.Equal v ∷ its.Compare r is.Differs v ∷ its.Or ∷ its.And ∷ []

-- the same for the ref that a word compares, if it compares one
abbrev pub set_more : (all : List ClaimWord) → ClaimWord → List ClaimWord
set_more all (its.Compare r how v) = any_more all r v
set_more all its.Not = all
set_more all its.And = all
set_more all its.Or = all
set_more all its.Deadlock = all
set_more all its.Left = all
set_more all its.Final = all

-- the words that are true at each moment at which the claim of `words` is checked: in each world in which every ref that
-- they compare was set
abbrev pub all_set : List ClaimWord → List ClaimWord
all_set words = fold set_more [] words

-- ---- what is found
-- the schedule leads to a world in which the words are true, and it can be spelled
pub record IsMoment (code : Tree) (k : Limits) (words : List ClaimWord) (schedule : List ℕ) : Type 0 where
  pub meets : Meets code k words schedule
  pub numbers : All (λ f. f < 1000) schedule
  pub few : length schedule ≤ 1000000

-- the verdict is right for the words that decide a claim: the schedule leads to a world in which they are true, or no
-- schedule does
abbrev pub IsDecided : Tree → Limits → List ClaimWord → Verdict → Type 0
IsDecided code k words (Moment schedule) = IsMoment code k words schedule.items
IsDecided code k words NoMoment = (schedule : List ℕ) → Meets code k words schedule → ⊥
IsDecided code k words Undecided = ⊤

-- ---- two lists of the same length, whose elements belong together
pub data Pairwise {A B : Type 0} (R : A → B → Type 0) : List A → List B → Type 0 where
  no_pair : Pairwise R [] []
  a_pair : (xs : List A) (ys : List B) (x : A) (y : B) → Pairwise R xs ys → R x y →
      Pairwise R (xs ++ x ∷ []) (ys ++ y ∷ [])
