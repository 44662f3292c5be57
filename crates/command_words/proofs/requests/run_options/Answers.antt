use Rattle.std.proofs.Common.{Option, Some, None, IfNone, rules}
use Rattle.steal_pool.specs.Runs.{limits_of}
use Rattle.command_words.proofs.requests.run_options.Goals as goal

-- a fact that always holds also holds if the result is `None`
if_none : {A : Type 0} {P : Type 0} (r : Option A) → P → IfNone r P
if_none None p = p
if_none (Some x) p = tt

pub returns-in_err-limits-clause-none : goal.returns-in_err-limits-clause-none
returns-in_err-limits-clause-none c =
    if_none c.from_residual-in_err-limits.result (λ options said. c.in_err-limits.ensures.none (limits_of options) said.limits)

pub returns-clause-said : goal.returns-clause-said
returns-clause-said c = search rules
