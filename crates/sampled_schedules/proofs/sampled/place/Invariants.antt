use Rattle.std.{proofs.Common.{◌≡◌, ◌≢◌, ℕ, ◌<◌, Some}, specs.List.slice_get}
use Rattle.sampled_schedules.specs.declared.comings.Coming.{Coming}
use Rattle.sampled_schedules.proofs.sampled.place.Given as goal

-- none of the comings so far has this end
abbrev pub invariant-loop-index : goal.invariant-loop-index
invariant-loop-index l = (i : ℕ) (c : Coming) → i < l.index → slice_get l.comings i ≡ Some c → c.answer.end ≢ l.answer.end
