-- The answer to a text about claims.
use Rattle.std.specs.Prelude.{◌≡◌, ◌⊎◌, ℕ, false, List, [], ◌++◌, codes, map}
use Rattle.derived_ops.specs.Expansion.{code_of}
use Rattle.derived_ops.specs.Reading.{source_of}
use Rattle.effect_term.specs.declared.term.Term.{Term}
use Rattle.text_io.specs.declared.status.Status.{Status}
use Rattle.text_io.specs.declared.status.Status.TheVariants as ends
use Rattle.outcome_trace.specs.Answers.{IsRefusalAnswer}
use Rattle.every_schedule.specs.declared.claims.ClaimWord.{ClaimWord}
use Rattle.exploration_text.specs.declared.explore_texts.ExploreOrder.{ExploreOrder}
use Rattle.exploration_text.specs.ExploreAnswers.{IsNotedExplored}
use Rattle.exploration_text.specs.Noting.{IsNotedAnswer}
use Rattle.json_answers.specs.Answers.{IsJsonRefusal}
use Rattle.json_answers.specs.FoundAnswers.{IsNotedJsonExplored}
use Rattle.timelines.specs.ExploreTimelines.{IsNotedTold}
use Rattle.claim_words.specs.Spacing.{spaced_text}
use Rattle.claim_words.specs.declared.heads.RefFault.{RefFault}
use Rattle.claim_words.specs.declared.heads.RefFault.TheVariants.{NoRef, NotAtHead, Several}
use Rattle.claim_answers.specs.declared.asked.Asked.{Asked}
use Rattle.claim_answers.specs.declared.judging.Verdict.{Verdict}
use Rattle.claim_answers.specs.declared.lines.ClaimForm.{ClaimForm}
use Rattle.claim_answers.specs.declared.lines.ClaimForm.TheVariants as forms
use Rattle.claim_answers.specs.declared.moments.Among.TheVariants as among
use Rattle.claim_answers.specs.Claims.{IsDecided, IsSought, Pairwise, all_set}
use Rattle.claim_answers.specs.Unchecked.{AreUnchecked}
use Rattle.claim_answers.specs.Verdicts.{AreLines, IsLine, claims_status, gap, worse}

-- the answer of `explore` to a program without claims, with this note, and no finding of random schedules behind it
abbrev pub explored_as : ClaimForm → ExploreOrder → (note : List ℕ) → Term → List ℕ → Status → Type 0
explored_as forms.Report o note t = IsNotedExplored t o.limits o.bounds false o.wants.items note
explored_as forms.Timeline o note t = IsNotedTold t o.limits o.bounds false o.wants.items note
explored_as forms.Json o note t = IsNotedJsonExplored t o.limits o.bounds false o.wants.items note

-- the answer to a refused text
abbrev pub refuses_as : ClaimForm → List ℕ → List ℕ → Status → Type 0
refuses_as forms.Report = IsRefusalAnswer
refuses_as forms.Timeline = IsRefusalAnswer
refuses_as forms.Json = IsJsonRefusal

-- Each claim has words that decide it, and a verdict that is true of the program. The text has a line for each, in
-- their order. The words that are true when the claim is checked have such a verdict, too, and if no schedule comes to
-- such a moment, there is a note on the claim.
pub record AreJudged (form : ClaimForm) (o : ExploreOrder) (asked : List Asked) (text : List ℕ) (t : Term)
    (verdicts : List Verdict) (lines notes : List ℕ) : Type 0
  where
    pub soughts : List (List ClaimWord)
    pub sought : Pairwise (IsSought (spaced_text text)) asked soughts
    pub decided : Pairwise (IsDecided (code_of (source_of t)) o.limits) soughts verdicts
    pub moments : List Verdict
    pub checked : Pairwise (IsDecided (code_of (source_of t)) o.limits) (map all_set soughts) moments
    pub lines_are : AreLines (IsLine form) asked verdicts lines
    pub notes_are : AreUnchecked among.All asked moments notes

-- the lines of the claims, and after them the answer of `explore` without claims; the notes on the claims, and after
-- them that of this answer; the status is the worse of both
pub record IsJudgedAnswer (form : ClaimForm) (o : ExploreOrder) (asked : List Asked) (text note : List ℕ) (t : Term)
    (answer : List ℕ) (status : Status) : Type 0
  where
    pub verdicts : List Verdict
    pub lines : List ℕ
    pub notes : List ℕ
    pub judged : AreJudged form o asked text t verdicts lines notes
    pub rest : List ℕ
    pub rest_note : List ℕ
    pub rest_status : Status
    pub explored : explored_as form o rest_note t rest rest_status
    pub answer_is : answer ≡ lines ++ (gap form ++ rest)
    pub note_is : note ≡ notes ++ rest_note
    pub status_is : status ≡ worse (claims_status asked verdicts) rest_status

-- why the number of a ref isn't known
abbrev pub reason_text : RefFault → List ℕ
reason_text NoRef = codes "', and the program has no ref of this name"
reason_text NotAtHead = codes "', which isn't at the head of the program: name the ref by its number"
reason_text Several = codes "', and the program has several binders of this name: name the ref by its number"

abbrev pub unnamed_note : (name : List ℕ) → RefFault → List ℕ
unnamed_note name fault = codes "error: a claim names the ref '" ++ (name ++ (reason_text fault ++
    codes "\n\nFor more information, try '--help'.\n"))

-- a claim names a ref whose number isn't known: the answer is empty, and the note gives the reason
pub record IsUnnamedAnswer (note answer : List ℕ) (status : Status) : Type 0 where
  pub name : List ℕ
  pub fault : RefFault
  pub note_is : note ≡ unnamed_note name fault
  pub nothing : answer ≡ []
  pub status_is : status ≡ ends.Usage

-- the answer to a text with its status and this note: the refusal of the text, the verdicts on its program, or that a
-- claim names a ref whose number isn't known
abbrev pub IsClaimsAnswer : ClaimForm → ExploreOrder → List Asked → (note : List ℕ) → List ℕ → List ℕ → Status → Type 0
IsClaimsAnswer form o asked note text answer status = IsNotedAnswer (refuses_as form)
    (λ note t answer status. IsJudgedAnswer form o asked text note t answer status ⊎
    IsUnnamedAnswer note answer status)
    note text answer status
