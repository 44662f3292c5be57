-- The effects of the requests to check a text and to show its program.
use Rattle.std.specs.Prelude.{Bool, true, false, ℕ, List}
use Rattle.reasons.specs.Refusals.{IsTextReasons}
use Rattle.json_answers.specs.Answers.{IsJsonCheck}
use Rattle.outcome_trace.specs.Answers.{IsCheckAnswer, IsShowAnswer}
use Rattle.text_io.specs.declared.status.Status.{Status}
use Rattle.text_io.specs.Devices.{Devices}
use Rattle.command_words.specs.declared.checking.Checking.{Checking}
use Rattle.command_words.specs.declared.checking.Showing.{Showing}
use Rattle.command_line.specs.Orders.{ObeysOrder}

-- the answer of `check`, as JSON or in words
abbrev pub checks_as : Bool → List ℕ → List ℕ → Status → Type 0
checks_as true = IsJsonCheck
checks_as false = IsCheckAnswer

-- the effect of a request to check a text
abbrev pub ObeysCheck : Checking → Devices → Devices → Status → Type 0
ObeysCheck checking before after status =
    ObeysOrder (checks_as checking.json) IsTextReasons checking.explain before after status

-- the effect of a request to show a text's program
abbrev pub ObeysShow : Showing → Devices → Devices → Status → Type 0
ObeysShow showing before after status = ObeysOrder IsShowAnswer IsTextReasons showing.explain before after status
