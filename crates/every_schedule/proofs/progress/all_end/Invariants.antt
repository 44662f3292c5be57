use Rattle.std.proofs.Common.{◌≡◌, true, take}
use Rattle.std.specs.List.{list_all}
use Rattle.every_schedule.specs.Private.Stopping.{ends}
use Rattle.every_schedule.proofs.progress.all_end.Given as goal

-- each fiber so far has ended
abbrev pub invariant-loop-config : goal.invariant-loop-config
invariant-loop-config l = list_all ends (take l.config-index l.fibers) ≡ true
