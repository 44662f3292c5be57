-- The exit statuses.
use Rattle.std.specs.Prelude.{ℕ}
use Rattle.text_io.specs.declared.status.Status.{Status}
use Rattle.text_io.specs.declared.status.Status.TheVariants.{Succeeded, Errored, Canceled, Unended, Usage}
use Rattle.text_io.specs.declared.status.Status.TheVariants.{Refused, Fault}

abbrev pub code_of : Status → ℕ
code_of Succeeded = 0
code_of Errored = 1
code_of Canceled = 2
code_of Unended = 3
code_of Usage = 64
code_of Refused = 65
code_of Fault = 70
