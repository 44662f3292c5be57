-- What a replay tells of the schedule of a run.
use Rattle.std.proofs.Common.{◌≡◌, ◌≢◌, ◌⊎◌, ℕ, inl, inr, None, Result, Ok, Err, IfOk, sym, ◌∙◌}
use Rattle.derived_ops.specs.Tree.{Tree}
use Rattle.cell_registry.specs.declared.limits.{Limits.Limits, RunError.RunError}
use Rattle.scheduled_core.{specs.{declared.report.Report.Report, Covers.IsInEachCover, Finals.IsSettledReport}, proofs.Continuing.settled_of}
use Rattle.scheduled_core.proofs.Covering.{settled_listed}
use Rattle.run_ends.specs.{declared.finishing.RunEnd.RunEnd, Ends.IsEnd}
use Rattle.cell_registry.specs.declared.limits.RunError.TheVariants as fault

-- what a replay came to, for which there was memory, is what the core comes to
pub replayed_comes : (came end of_core : Result Report RunError) → (came ≡ Err fault.NoMemory) ⊎ (came ≡ of_core) → came ≢ Err fault.NoMemory →
    came ≡ end → of_core ≡ end
replayed_comes came end of_core (inl none) some same = absurd (some none)
replayed_comes came end of_core (inr is) some same = sym is ∙ same

-- no entries change a complete end
pub settled_end : (code : Tree) (k : Limits) (most : ℕ) (r : Result RunEnd RunError) → IfOk r (IsEnd code k most) →
    IfOk r (λ it. it.stopped ≡ None → IsSettledReport code k it.report)
settled_end code k most (Ok it) ends = λ none. settled_of code k it.report (ends.complete none)
settled_end code k most (Err e) ends = tt

-- so each list that leaves nothing out has its report
pub listed_end : (code : Tree) (k : Limits) (most : ℕ) (r : Result RunEnd RunError) → IfOk r (IsEnd code k most) →
    IfOk r (λ it. it.stopped ≡ None → IsInEachCover code k it.report)
listed_end code k most (Ok it) ends = λ none. settled_listed code k it.report (settled_of code k it.report (ends.complete none))
listed_end code k most (Err e) ends = tt
