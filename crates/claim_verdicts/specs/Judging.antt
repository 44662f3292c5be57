-- The verdict of a claim over all answers of an exploration.
use Rattle.std.specs.Prelude.{◌≡◌, ◌<◌, ℕ, Bool, true, false, List, length, Option, Some, None}
use Rattle.std.specs.List.{AllWithin, HoldsAt}
use Rattle.claim_verdicts.specs.declared.judging.Rule.{Rule}
use Rattle.claim_verdicts.specs.declared.judging.Rule.TheVariants as rules
use Rattle.claim_verdicts.specs.declared.judging.Truth.{Truth}
use Rattle.claim_verdicts.specs.declared.judging.Truth.TheVariants as truths
use Rattle.claim_verdicts.specs.declared.judging.Verdict.{Verdict}
use Rattle.claim_verdicts.specs.declared.judging.Verdict.TheVariants as verdicts

-- whether an answer refutes a claim about every answer: the condition fails, or the answer is a fault
abbrev pub refutes : Truth → Bool
refutes truths.Holds = false
refutes truths.Fails = true
refutes truths.SaysNothing = false
refutes truths.Faulty = true

-- whether an answer meets a claim about some answer: the condition holds
abbrev pub meets : Truth → Bool
meets truths.Holds = true
meets truths.Fails = false
meets truths.SaysNothing = false
meets truths.Faulty = false

-- whether an answer decides a claim by itself
abbrev pub decides : Rule → Truth → Bool
decides rules.Every t = refutes t
decides rules.Some t = meets t

-- no answer decides the claim by itself
abbrev pub NoneDecides : Rule → List Truth → Type 0
NoneDecides rule ts = AllWithin (λ t. decides rule t ≡ false) ts 0 (length ts)

-- the answer with this number decides the claim, and none before it does
abbrev pub IsFirst : Rule → List Truth → ℕ → Type 0
IsFirst rule ts i =
    (i < length ts) × HoldsAt (λ t. decides rule t ≡ true) ts i × AllWithin (λ t. decides rule t ≡ false) ts 0 i

-- the answer that is shown: the first that decides the claim, or none
abbrev pub IsShown : Rule → List Truth → Option ℕ → Type 0
IsShown rule ts (Some i) = IsFirst rule ts i
IsShown rule ts None = NoneDecides rule ts

-- The verdict of a claim that isn't under `fails`, and the answer that is shown. A claim about every answer fails only
-- if an answer refutes it, and passes only if none does and there are no other answers. A claim about some answer
-- passes only if an answer meets it, and fails only if none does and there are no other answers.
abbrev pub IsJudged : Rule → Bool → List Truth → Option ℕ → Verdict → Type 0
IsJudged rules.Every closed ts None verdicts.Passed = (closed ≡ true) × NoneDecides rules.Every ts
IsJudged rules.Every closed ts None verdicts.Failed = ⊥
IsJudged rules.Every closed ts None verdicts.Undecided = (closed ≡ false) × NoneDecides rules.Every ts
IsJudged rules.Every closed ts (Some i) verdicts.Passed = ⊥
IsJudged rules.Every closed ts (Some i) verdicts.Failed = IsFirst rules.Every ts i
IsJudged rules.Every closed ts (Some i) verdicts.Undecided = ⊥
IsJudged rules.Some closed ts None verdicts.Passed = ⊥
IsJudged rules.Some closed ts None verdicts.Failed = (closed ≡ true) × NoneDecides rules.Some ts
IsJudged rules.Some closed ts None verdicts.Undecided = (closed ≡ false) × NoneDecides rules.Some ts
IsJudged rules.Some closed ts (Some i) verdicts.Passed = IsFirst rules.Some ts i
IsJudged rules.Some closed ts (Some i) verdicts.Failed = ⊥
IsJudged rules.Some closed ts (Some i) verdicts.Undecided = ⊥

-- ---- `fails`
abbrev pub turned : Verdict → Verdict
turned verdicts.Passed = verdicts.Failed
turned verdicts.Failed = verdicts.Passed
turned verdicts.Undecided = verdicts.Undecided

-- the verdict, with passed and failed exchanged if the flag is true
abbrev pub under : Bool → Verdict → Verdict
under true v = turned v
under false v = v

-- ---- the verdict, computed
abbrev pub by_answer : Rule → Verdict
by_answer rules.Every = verdicts.Failed
by_answer rules.Some = verdicts.Passed

abbrev pub by_search : Bool → Rule → Verdict
by_search false rule = verdicts.Undecided
by_search true rules.Every = verdicts.Passed
by_search true rules.Some = verdicts.Failed

abbrev pub plain_verdict : Rule → Option ℕ → Bool → Verdict
plain_verdict rule (Some i) closed = by_answer rule
plain_verdict rule None closed = by_search closed rule
