use Rattle.std.proofs.Common.{◌≡◌, drop}
use Rattle.std.specs.List.{list_any}
use Rattle.suite_statuses.specs.Verdicts.{is_failed}
use Rattle.suite_statuses.proofs.statuses.has_failed.Given as goal

-- no verdict before is `Failed`
abbrev pub invariant-loop-verdict : goal.invariant-loop-verdict
invariant-loop-verdict l = list_any is_failed (drop l.verdict-index l.verdicts) ≡ list_any is_failed l.verdicts
