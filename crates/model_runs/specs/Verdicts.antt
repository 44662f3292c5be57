-- The verdict of a model.
use Rattle.std.specs.Prelude.{Bool, true, false, if◌then◌else◌, List}
use Rattle.std.specs.List.{list_any}
use Rattle.claim_verdicts.specs.declared.judging.Verdict.{Verdict}
use Rattle.claim_verdicts.specs.declared.judging.Verdict.TheVariants as verdict
use Rattle.model_runs.specs.declared.result.ClaimResult.{ClaimResult}

-- whether a claim with this verdict has failed
abbrev pub has_failed : Verdict → Bool
has_failed verdict.Passed = false
has_failed verdict.Failed = true
has_failed verdict.Undecided = false

-- whether a claim with this verdict is undecided
abbrev pub is_undecided : Verdict → Bool
is_undecided verdict.Passed = false
is_undecided verdict.Failed = false
is_undecided verdict.Undecided = true

-- whether one of these claims has failed
abbrev pub one_has_failed : List ClaimResult → Bool
one_has_failed claims = list_any (λ c. has_failed c.verdict) claims

-- whether one of these claims is undecided
abbrev pub one_is_undecided : List ClaimResult → Bool
one_is_undecided claims = list_any (λ c. is_undecided c.verdict) claims

-- the worst verdict of these claims: failed if one has failed, else undecided if one is undecided, else passed
abbrev pub worst : List ClaimResult → Verdict
worst claims =
    if one_has_failed claims then verdict.Failed
    else if one_is_undecided claims then verdict.Undecided
    else verdict.Passed
