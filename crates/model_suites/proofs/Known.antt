-- The status of verdicts is one of three.
use Rattle.std.proofs.Common.{Bool, true, false, List, if◌then◌else◌}
use Rattle.std.specs.List.{list_any}
use Rattle.claim_verdicts.specs.declared.judging.Verdict.{Verdict}
use Rattle.suite_statuses.specs.Verdicts.{is_failed, is_undecided, status_of}
use Rattle.model_suites.specs.Statuses.{IsSuiteStatus}
use Rattle.text_io.specs.declared.status.Status.TheVariants.{Succeeded, Errored, Unended}

one_of : (failed undecided : Bool) → IsSuiteStatus (if failed then Errored else (if undecided then Unended else Succeeded))
one_of true undecided = tt
one_of false true = tt
one_of false false = tt

pub known : (verdicts : List Verdict) → IsSuiteStatus (status_of verdicts)
known verdicts = one_of (list_any is_failed verdicts) (list_any is_undecided verdicts)
