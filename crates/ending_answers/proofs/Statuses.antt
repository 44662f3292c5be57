-- No decision gives the status of wrong usage.
use Rattle.std.proofs.Common.{◌≢◌}
use Rattle.fair_ends.specs.declared.ending.Ending.{Ending}
use Rattle.fair_ends.specs.declared.ending.Ending.TheVariants as decided
use Rattle.text_io.specs.declared.status.Status.{Status}
use Rattle.text_io.specs.declared.status.Status.TheVariants as ends
use Rattle.ending_answers.specs.DecidedText.{ending_status, undecided_status}

undecided_ends : (s : Status) → s ≢ ends.Usage → undecided_status s ≢ ends.Usage
undecided_ends ends.Usage never = never
undecided_ends _ never = λ u. cc

pub ending_ends : (e : Ending) (s : Status) → s ≢ ends.Usage → ending_status e s ≢ ends.Usage
ending_ends decided.Ends s never = never
ending_ends (decided.Repeats c) s never = λ u. cc
ending_ends decided.Undecided s never = undecided_ends s never
