-- The answer to a text about claims that are looked at in schedules which are drawn at random.
use Rattle.std.specs.Prelude.{◌≡◌, ◌⊎◌, ℕ, Bool, true, false, if◌then◌else◌, List, ◌++◌, length, codes, map}
use Rattle.std.specs.List.{All}
use Rattle.derived_ops.specs.Expansion.{code_of}
use Rattle.derived_ops.specs.Reading.{source_of}
use Rattle.derived_ops.specs.Tree.{Tree}
use Rattle.effect_term.specs.declared.term.Term.{Term}
use Rattle.cell_registry.specs.declared.limits.Limits.{Limits}
use Rattle.text_io.specs.declared.status.Status.{Status}
use Rattle.text_io.specs.declared.status.Status.TheVariants as ends
use Rattle.every_schedule.specs.declared.claims.ClaimWord.{ClaimWord}
use Rattle.sampled_schedules.specs.declared.comings.Drawn.{Drawn}
use Rattle.sampled_schedules.specs.Claims.{IsMetByNone}
use Rattle.sampled_schedules.specs.Sampled.{IsDrawing}
use Rattle.exploration_text.specs.declared.sample_texts.SampleOrder.{SampleOrder}
use Rattle.exploration_text.specs.ExplorationText.{counted}
use Rattle.exploration_text.specs.Noting.{IsNotedAnswer}
use Rattle.exploration_text.specs.SampleAnswers.{IsNotedSample}
use Rattle.json_answers.specs.FoundAnswers.{IsNotedJsonSample}
use Rattle.claim_words.specs.Spacing.{spaced_text}
use Rattle.claim_answers.specs.declared.asked.Asked.{Asked}
use Rattle.claim_answers.specs.declared.asked.Rule.{Rule}
use Rattle.claim_answers.specs.declared.asked.Rule.TheVariants.{Always, Never, Reach}
use Rattle.claim_answers.specs.declared.judging.Verdict.{Verdict}
use Rattle.claim_answers.specs.declared.judging.Verdict.TheVariants.{Moment, NoMoment, Undecided}
use Rattle.claim_answers.specs.declared.lines.ClaimForm.{ClaimForm}
use Rattle.claim_answers.specs.declared.lines.ClaimForm.TheVariants as forms
use Rattle.claim_answers.specs.declared.moments.Among.TheVariants as among
use Rattle.claim_answers.specs.Claims.{IsMoment, IsSought, Pairwise, all_set}
use Rattle.claim_answers.specs.Unchecked.{AreUnchecked}
use Rattle.claim_answers.specs.ClaimsAnswers.{IsUnnamedAnswer, refuses_as}
use Rattle.claim_answers.specs.Verdicts.{AreLines, IsLine, IsShown, gap, one_refuted, rule_text, under, worse}

-- ---- what is found
-- the verdict is right for the words that decide a claim, and for these schedules: the schedule of the verdict leads to
-- a world in which the words are true, or none of these comes to one, which decides nothing
abbrev pub IsSeen : Tree → Limits → List Drawn → List ClaimWord → Verdict → Type 0
IsSeen code k drawn words (Moment schedule) = IsMoment code k words schedule.items
IsSeen code k drawn words NoMoment = ⊥
IsSeen code k drawn words Undecided = IsMetByNone code k drawn words

-- ---- what is written
-- a claim that no world on the way of `times` schedules decides
abbrev pub unseen_text : Rule → List ℕ
unseen_text Always = codes "not refuted in "
unseen_text Never = codes "not refuted in "
unseen_text Reach = codes "not met in "

abbrev pub seen_text : Rule → Verdict → (times : ℕ) → List ℕ
seen_text Always (Moment schedule) times = codes "refuted"
seen_text Never (Moment schedule) times = codes "refuted"
seen_text Reach (Moment schedule) times = codes "met"
seen_text rule NoMoment times = unseen_text rule ++ counted times (codes "schedule")
seen_text rule Undecided times = unseen_text rule ++ counted times (codes "schedule")

-- a claim, what was seen of it, and the schedule, in words
abbrev pub seen_line : Rule → (claim : List ℕ) → Verdict → (schedule : List ℕ) → (times : ℕ) → List ℕ
seen_line rule claim v schedule times = rule_text rule ++ (codes " " ++ (claim ++ (codes ": " ++
    (seen_text rule v times ++ (under v schedule ++ codes "\n")))))

-- the text of one claim; in JSON that of a search, where such a claim is undecided
abbrev pub IsSeenLine : Bool → (times : ℕ) → Asked → Verdict → List ℕ → Type 0
IsSeenLine true times a v line = IsLine forms.Json a v line
IsSeenLine false times a v line =
    (text : List ℕ) × IsShown v text × (line ≡ seen_line a.rule a.claim.text.items v text times)

-- `Errored` if one of the claims is refuted
abbrev pub seen_status : List Asked → List Verdict → Status
seen_status asked verdicts = if one_refuted asked verdicts then ends.Errored else ends.Succeeded

-- ---- the answer
abbrev pub form_of : Bool → ClaimForm
form_of true = forms.Json
form_of false = forms.Report

-- the answer of `sample` to a program without claims, with this note
abbrev pub sampled_as : Bool → SampleOrder → (note : List ℕ) → Term → List ℕ → Status → Type 0
sampled_as true o note t = IsNotedJsonSample t o.limits o.seed o.times o.entries o.wants.items note
sampled_as false o note t = IsNotedSample t o.limits o.times o.entries o.wants.items note

-- As many schedules were drawn as the order says. Each claim has words that decide it, and a verdict that is right for
-- these schedules. The text has a line for each, in their order. The words that are true when the claim is checked have
-- such a verdict, too, and if none of the schedules comes to such a moment, there is a note on the claim.
pub record AreSeen (json : Bool) (o : SampleOrder) (asked : List Asked) (text : List ℕ) (t : Term)
    (verdicts : List Verdict) (lines notes : List ℕ) : Type 0
  where
    pub drawn : List Drawn
    pub many : length drawn ≡ o.times
    pub each : All (IsDrawing (code_of (source_of t)) o.limits o.entries) drawn
    pub soughts : List (List ClaimWord)
    pub sought : Pairwise (IsSought (spaced_text text)) asked soughts
    pub seen : Pairwise (IsSeen (code_of (source_of t)) o.limits drawn) soughts verdicts
    pub moments : List Verdict
    pub checked : Pairwise (IsSeen (code_of (source_of t)) o.limits drawn) (map all_set soughts) moments
    pub lines_are : AreLines (IsSeenLine json o.times) asked verdicts lines
    pub notes_are : AreUnchecked among.Drawn asked moments notes

-- the lines of the claims, and after them the answer of `sample` without claims; the notes on the claims, and after them
-- that of this answer; the status is the worse of both
pub record IsSeenAnswer (json : Bool) (o : SampleOrder) (asked : List Asked) (text note : List ℕ) (t : Term)
    (answer : List ℕ) (status : Status) : Type 0
  where
    pub verdicts : List Verdict
    pub lines : List ℕ
    pub notes : List ℕ
    pub seen : AreSeen json o asked text t verdicts lines notes
    pub rest : List ℕ
    pub rest_note : List ℕ
    pub rest_status : Status
    pub sampled : sampled_as json o rest_note t rest rest_status
    pub answer_is : answer ≡ lines ++ (gap (form_of json) ++ rest)
    pub note_is : note ≡ notes ++ rest_note
    pub status_is : status ≡ worse (seen_status asked verdicts) rest_status

-- the answer to a text with its status and this note: the refusal of the text, what was seen of the claims on its
-- program, or that a claim names a ref whose number isn't known
abbrev pub IsSampledClaims : Bool → SampleOrder → List Asked → (note : List ℕ) → List ℕ → List ℕ → Status → Type 0
IsSampledClaims json o asked note text answer status = IsNotedAnswer (refuses_as (form_of json))
    (λ note t answer status. IsSeenAnswer json o asked text note t answer status ⊎
    IsUnnamedAnswer note answer status)
    note text answer status
