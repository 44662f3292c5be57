-- The status of the verdicts of all models.
use Rattle.std.specs.Prelude.{List, Bool, true, false, if◌then◌else◌}
use Rattle.std.specs.List.{list_any}
use Rattle.claim_verdicts.specs.declared.judging.Verdict.{Verdict}
use Rattle.claim_verdicts.specs.declared.judging.Verdict.TheVariants.{Passed, Failed, Undecided}
use Rattle.text_io.specs.declared.status.Status.{Status}
use Rattle.text_io.specs.declared.status.Status.TheVariants as ends

abbrev pub is_failed : Verdict → Bool
is_failed Passed = false
is_failed Failed = true
is_failed Undecided = false

abbrev pub is_undecided : Verdict → Bool
is_undecided Passed = false
is_undecided Failed = false
is_undecided Undecided = true

-- 1 if a model failed, else 3 if one is undecided, else 0
abbrev pub status_of : List Verdict → Status
status_of verdicts =
    if list_any is_failed verdicts then ends.Errored
    else (if list_any is_undecided verdicts then ends.Unended else ends.Succeeded)
