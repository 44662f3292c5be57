use Rattle.std.proofs.Common.{ℕ, subst}
use Rattle.cell_registry.specs.declared.limits.Limits.{Limits}
use Rattle.derived_ops.specs.Tree.{Tree}
use Rattle.run_ends.specs.Ends.{IsRunFault}
use Rattle.run_ends.specs.Leaving.{Gathered}
use Rattle.steal_pool.specs.Runs.{limits_of}
use Rattle.steal_pool.proofs.Faults.{of_gathered}
use Rattle.steal_pool.proofs.running.attempt.Goals as goal

pub returns-then-is_refused-clause-faults : goal.returns-then-is_refused-clause-faults
returns-then-is_refused-clause-faults g c =
    subst (λ (t : Tree). IsRunFault t (limits_of c.args.options) c.refused.result) c.in_ok-code.ensures.code
    (subst (λ (k : Limits). IsRunFault c.in_ok-code.code k c.refused.result) c.in_ok-registry.ensures.limits
    (c.refused.ensures c.in_ok-code.code c.args.options.moves c.in_ok-leavings.ensures.left))

pub returns-clause-faults : goal.returns-clause-faults
returns-clause-faults g c =
    of_gathered c.finish.result (λ (t : Tree) (m : ℕ). Gathered c.in_ok-registry.registry t m c.in_ok-leavings.leavings.met
    c.in_ok-leavings.leavings.configs.items c.in_ok-leavings.leavings.rests.items) c.in_ok-code.code _ c.args.options.moves _ _
    c.in_ok-leavings.ensures.left c.in_ok-code.ensures.code c.in_ok-registry.ensures.limits c.finish.ensures.faults
