-- The statuses of a suite whose models were tested.
use Rattle.std.specs.Prelude.{◌==◌, ◌∷◌, ℕ, List, [], if◌then◌else◌}
use Rattle.claim_verdicts.specs.declared.judging.Verdict.{Verdict}
use Rattle.claim_verdicts.specs.declared.judging.Verdict.TheVariants.{Failed, Undecided}
use Rattle.suite_statuses.specs.Verdicts.{status_of}
use Rattle.model_suites.specs.declared.tested.Became.{Became}
use Rattle.model_suites.specs.declared.tested.Became.TheVariants as ways
use Rattle.text_io.specs.declared.status.Status.{Status}
use Rattle.text_io.specs.declared.status.Status.TheVariants.{Succeeded, Errored, Canceled, Unended, Usage, Refused, Fault}

-- the status of a suite: all passed, one failed or there is none, or none failed and one is undecided
abbrev pub IsSuiteStatus : Status → Type 0
IsSuiteStatus Succeeded = Unit {0}
IsSuiteStatus Errored = Unit {0}
IsSuiteStatus Canceled = ⊥
IsSuiteStatus Unended = Unit {0}
IsSuiteStatus Usage = ⊥
IsSuiteStatus Refused = ⊥
IsSuiteStatus Fault = ⊥

-- the verdict of a model: failed if its term was refused, undecided if it has no result of a search; none if the model
-- was only listed
abbrev pub verdict_in : Became → List Verdict
verdict_in ways.Listed = []
verdict_in (ways.Refused fault) = Failed ∷ []
verdict_in (ways.Explored explored) = explored.result.verdict ∷ []
verdict_in (ways.Undecided undecided) = Undecided ∷ []

-- the status of `models` models with these verdicts: 1 if there are none to test, else that of the verdicts
abbrev pub suite_status : ℕ → List Verdict → Status
suite_status models verdicts = if models == 0 then Errored else status_of verdicts
