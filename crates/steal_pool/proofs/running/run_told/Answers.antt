use Rattle.std.proofs.Common.{◌∙◌, ap, subst, sym}
use Rattle.cell_registry.specs.declared.limits.Limits.{Limits}
use Rattle.cell_registry.specs.declared.limits.RunError.{RunError}
use Rattle.derived_ops.specs.Expansion.{code_of}
use Rattle.derived_ops.specs.Reading.{source_of}
use Rattle.ready_queues.specs.Faults.{fault_within}
use Rattle.run_ends.specs.Ends.{IsRunFault}
use Rattle.steal_pool.specs.Runs.{limits_of}
use Rattle.scheduled_core.proofs.Continuing.{settled_of}
use Rattle.scheduled_core.proofs.Covering.{settled_listed}
use Rattle.steal_pool.proofs.Faults.{within_fault}
use Rattle.steal_pool.proofs.running.run_told.Goals as goal

pub returns-in-Ok-clause-settled : goal.returns-in-Ok-clause-settled
returns-in-Ok-clause-settled o c e = settled_of _ _ _ (c.in-Ok.ensures.ends.complete e)

pub returns-in-Ok-clause-listed : goal.returns-in-Ok-clause-listed
returns-in-Ok-clause-listed o c e = settled_listed _ _ _ (settled_of _ _ _ (c.in-Ok.ensures.ends.complete e))

pub returns-clause-faults : goal.returns-clause-faults
returns-clause-faults o c =
    let code = code_of (source_of c.args.program) in
    let k = limits_of c.args.options in
    subst (λ (e : RunError). IsRunFault code k e)
    (sym (c.within.ensures.same ∙ ap (λ (l : Limits). fault_within l c.in-Err.fault) c.limits.ensures))
    (within_fault code k c.in-Err.fault c.in-Err.ensures.faults)
