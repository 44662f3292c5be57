use Rattle.std.{proofs.Common.{◌≡◌, ℕ, ◌<◌}, specs.{Prelude.Some, List.slice_get}}
use Rattle.every_schedule.specs.Private.Reporting.{Alike}
use Rattle.every_schedule.proofs.reports.same_reports.Given as goal

-- the states so far make the same reports
abbrev pub invariant-loop-i : goal.invariant-loop-i
invariant-loop-i l = (j m n : ℕ) → j < l.i → slice_get l.one j ≡ Some m → slice_get l.other j ≡ Some n → Alike l.pool.items.items m n
