-- The fault of a run, with the limit of its band, is the core's, too.
use Rattle.std.proofs.Common.{◌≡◌, ℕ, Result, Ok, Err, IfErr, subst}
use Rattle.cell_registry.specs.declared.limits.Limits.{Limits}
use Rattle.cell_registry.specs.declared.limits.RunError.{RunError}
use Rattle.cell_registry.specs.declared.limits.RunError.TheVariants as fault
use Rattle.derived_ops.specs.Tree.{Tree}
use Rattle.ready_queues.specs.Faults.{fault_within}
use Rattle.run_ends.specs.Ends.{IsFaultOfSomeSchedule, IsRunFault}
use Rattle.run_ends.proofs.Faults.{core_full}

pub within_fault : (code : Tree) (k : Limits) (e : RunError) → IsRunFault code k e → IsRunFault code k (fault_within k e)
within_fault code k (fault.Full b n) h = subst (λ m. IsFaultOfSomeSchedule code k (fault.Full b m)) (core_full code k h.0 b n h.1) h
within_fault code k (fault.Spent f) h = h
within_fault code k fault.NoMemory h = h
within_fault code k (fault.Lost f) h = h
within_fault code k fault.NoWorker h = h

-- the fault of what was gathered of this code is one of a run of it
pub of_gathered : {A : Type 0} (r : Result A RunError) (G : Tree → ℕ → Type 0) (code whole : Tree) (most : ℕ) (k l : Limits) → G code most →
    code ≡ whole → k ≡ l → IfErr r (λ e. (c : Tree) (m : ℕ) → G c m → IsRunFault c k e) → IfErr r (IsRunFault whole l)
of_gathered (Ok x) G code whole most k l here is same h = tt
of_gathered (Err e) G code whole most k l here is same h = subst (λ (c : Tree). IsRunFault c l e) is (subst (λ (x : Limits). IsRunFault code x e) same (h code most here))
