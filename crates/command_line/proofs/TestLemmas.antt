-- The statuses of a test.
use Rattle.text_io.specs.declared.status.Status.{Status}
use Rattle.text_io.specs.declared.status.Status.TheVariants.{Succeeded, Errored, Canceled, Unended, Usage, Refused, Fault}
use Rattle.model_suites.specs.Statuses.{IsSuiteStatus}
use Rattle.command_line.specs.Tests.{IsTestedStatus}

-- the status of a suite is a status of a test
pub suite_status : (status : Status) → IsSuiteStatus status → IsTestedStatus status
suite_status Succeeded is = tt
suite_status Errored is = tt
suite_status Canceled is = is
suite_status Unended is = tt
suite_status Usage is = is
suite_status Refused is = tt
suite_status Fault is = tt
