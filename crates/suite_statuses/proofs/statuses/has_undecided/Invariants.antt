use Rattle.std.proofs.Common.{◌≡◌, drop}
use Rattle.std.specs.List.{list_any}
use Rattle.suite_statuses.specs.Verdicts.{is_undecided}
use Rattle.suite_statuses.proofs.statuses.has_undecided.Given as goal

-- no verdict before is `Undecided`
abbrev pub invariant-loop-verdict : goal.invariant-loop-verdict
invariant-loop-verdict l = list_any is_undecided (drop l.verdict-index l.verdicts) ≡ list_any is_undecided l.verdicts
