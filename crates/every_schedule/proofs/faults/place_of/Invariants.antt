use Rattle.std.{proofs.Common.{◌≡◌, ◌≢◌, ℕ, ◌<◌}, specs.{Prelude.Some, List.slice_get}}
use Rattle.cell_registry.specs.declared.limits.RunError.{RunError}
use Rattle.every_schedule.proofs.faults.place_of.Given as goal

-- none so far is the fault
abbrev pub invariant-loop-i : goal.invariant-loop-i
invariant-loop-i l = (j : ℕ) (e : RunError) → j < l.i → slice_get l.faults j ≡ Some e → e ≢ l.fault
