-- What is written of claims, and the status.
use Rattle.std.specs.Prelude.{◌≡◌, ◌||◌, ℕ, Bool, true, false, if◌then◌else◌, List, [], ◌∷◌, ◌++◌, codes}
use Rattle.std.specs.List.{list_any}
use Rattle.text_io.specs.declared.status.Status.{Status}
use Rattle.text_io.specs.declared.status.Status.TheVariants as ends
use Rattle.text_io.specs.Schedule.{SpellsEntries}
use Rattle.claim_answers.specs.declared.asked.Asked.{Asked}
use Rattle.claim_answers.specs.declared.asked.Rule.{Rule}
use Rattle.claim_answers.specs.declared.asked.Rule.TheVariants.{Always, Never, Reach}
use Rattle.claim_answers.specs.declared.judging.Verdict.{Verdict}
use Rattle.claim_answers.specs.declared.judging.Verdict.TheVariants.{Moment, NoMoment, Undecided}
use Rattle.claim_answers.specs.declared.lines.ClaimForm.{ClaimForm}
use Rattle.claim_answers.specs.declared.lines.ClaimForm.TheVariants as forms

-- ---- what is written
abbrev pub rule_text : Rule → List ℕ
rule_text Always = codes "always"
rule_text Never = codes "never"
rule_text Reach = codes "reach"

-- a claim on every moment or on none is refuted by a world that decides it, and holds if there is none; a claim on some
-- moment is met by a world that decides it, and refuted if there is none
abbrev pub verdict_text : Rule → Verdict → List ℕ
verdict_text Always (Moment schedule) = codes "refuted"
verdict_text Never (Moment schedule) = codes "refuted"
verdict_text Reach (Moment schedule) = codes "met"
verdict_text Always NoMoment = codes "holds"
verdict_text Never NoMoment = codes "holds"
verdict_text Reach NoMoment = codes "refuted"
verdict_text rule Undecided = codes "undecided"

-- the text spells the schedule, if there is one
abbrev pub IsShown : Verdict → List ℕ → Type 0
IsShown (Moment schedule) text = SpellsEntries text schedule.items
IsShown NoMoment text = text ≡ []
IsShown Undecided text = text ≡ []

abbrev pub under : Verdict → List ℕ → List ℕ
under (Moment schedule) text = codes ", under \"" ++ (text ++ codes "\"")
under NoMoment text = []
under Undecided text = []

-- a claim, its verdict, and the schedule, in words
abbrev pub word_line : Rule → (claim : List ℕ) → Verdict → (schedule : List ℕ) → List ℕ
word_line rule claim v schedule = rule_text rule ++ (codes " " ++ (claim ++ (codes ": " ++
    (verdict_text rule v ++ (under v schedule ++ codes "\n")))))

abbrev pub json_schedule : Verdict → List ℕ → List ℕ
json_schedule (Moment schedule) text = codes "\"" ++ (text ++ codes "\"")
json_schedule NoMoment text = codes "null"
json_schedule Undecided text = codes "null"

-- the same as an object of JSON; JSON escapes no character of a claim or of a schedule
abbrev pub json_front : Rule → (claim : List ℕ) → List ℕ
json_front rule claim =
    codes "{\"answer\":\"claim\",\"claim\":\"" ++ (claim ++ (codes "\",\"rule\":\"" ++ rule_text rule))

abbrev pub json_back : Rule → Verdict → (schedule : List ℕ) → List ℕ
json_back rule v schedule = codes "\",\"schedule\":" ++ (json_schedule v schedule ++ (codes ",\"verdict\":\"" ++
    (verdict_text rule v ++ codes "\"}\n")))

abbrev pub json_line : Rule → (claim : List ℕ) → Verdict → (schedule : List ℕ) → List ℕ
json_line rule claim v schedule = json_front rule claim ++ json_back rule v schedule

-- a blank line and a timeline if there is a schedule, or else nothing
abbrev pub IsTimed : Verdict → List ℕ → Type 0
IsTimed (Moment schedule) text = (rows : List ℕ) × (text ≡ codes "\n" ++ rows)
IsTimed NoMoment text = text ≡ []
IsTimed Undecided text = text ≡ []

-- the text of one claim with its verdict; in the form `Timeline` it ends with a blank line
abbrev pub IsLine : ClaimForm → Asked → Verdict → List ℕ → Type 0
IsLine forms.Report a v line =
    (text : List ℕ) × IsShown v text × (line ≡ word_line a.rule a.claim.text.items v text)
IsLine forms.Json a v line =
    (text : List ℕ) × IsShown v text × (line ≡ json_line a.rule a.claim.text.items v text)
IsLine forms.Timeline a v line = (text : List ℕ) × (rows : List ℕ) × IsShown v text × IsTimed v rows ×
    (line ≡ word_line a.rule a.claim.text.items v text ++ (rows ++ codes "\n"))

-- the texts of all claims, one after the other, each as `IsText` says
pub data AreLines (IsText : Asked → Verdict → List ℕ → Type 0) : List Asked → List Verdict → List ℕ → Type 0 where
  no_line : AreLines IsText [] [] []
  a_line : (all : List Asked) (vs : List Verdict) (text : List ℕ) (a : Asked) (v : Verdict) (line : List ℕ) →
      AreLines IsText all vs text → IsText a v line →
      AreLines IsText (all ++ a ∷ []) (vs ++ v ∷ []) (text ++ line)

-- the bytes between the claims and the rest: a blank line after the form `Report`
abbrev pub gap : ClaimForm → List ℕ
gap forms.Report = codes "\n"
gap forms.Timeline = []
gap forms.Json = []

-- ---- the status
abbrev pub is_refuted : Rule → Verdict → Bool
is_refuted Always (Moment schedule) = true
is_refuted Never (Moment schedule) = true
is_refuted Reach NoMoment = true
is_refuted Always NoMoment = false
is_refuted Never NoMoment = false
is_refuted Reach (Moment schedule) = false
is_refuted rule Undecided = false

abbrev pub is_undecided : Verdict → Bool
is_undecided (Moment schedule) = false
is_undecided NoMoment = false
is_undecided Undecided = true

-- one of the claims is refuted
abbrev pub one_refuted : List Asked → List Verdict → Bool
one_refuted [] vs = false
one_refuted (a ∷ all) [] = false
one_refuted (a ∷ all) (v ∷ vs) = is_refuted a.rule v || one_refuted all vs

abbrev pub one_undecided : List Verdict → Bool
one_undecided vs = list_any is_undecided vs

-- as for an exploration: `Errored` if a claim is refuted, else `Unended` if a claim is undecided
abbrev pub claims_status : List Asked → List Verdict → Status
claims_status all vs =
    if one_refuted all vs then ends.Errored else (if one_undecided vs then ends.Unended else ends.Succeeded)

-- the worse of two statuses: `Errored` if one of them is, else `Unended` if one of them is
abbrev pub beside_undecided : Status → Status
beside_undecided ends.Errored = ends.Errored
beside_undecided ends.Succeeded = ends.Unended
beside_undecided ends.Canceled = ends.Unended
beside_undecided ends.Unended = ends.Unended
beside_undecided ends.Usage = ends.Unended
beside_undecided ends.Refused = ends.Unended
beside_undecided ends.Fault = ends.Unended

abbrev pub worse : Status → Status → Status
worse ends.Errored other = ends.Errored
worse ends.Unended other = beside_undecided other
worse ends.Succeeded other = other
worse ends.Canceled other = other
worse ends.Usage other = other
worse ends.Refused other = other
worse ends.Fault other = other
