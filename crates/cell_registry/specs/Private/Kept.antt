-- A stage as cells and passes keep it.
use Rattle.std.specs.Prelude.{ℤ, Bool, true, false}
use Rattle.effect_term.specs.declared.reply.Outcome.TheVariants as outcome
use Rattle.cell_registry.specs.declared.cell.Stage.{Stage}
use Rattle.cell_registry.specs.declared.cell.Stage.TheVariants as stage
use Rattle.cell_registry.specs.declared.phase.Phase.{Phase}
use Rattle.cell_registry.specs.declared.phase.Phase.TheVariants.{Running, Finalizing, Succeeded, Errored, Canceled}

-- the stage of a fiber in this phase; the value is used if the fiber succeeded or errored
abbrev pub stage_of : Phase → ℤ → Stage
stage_of Running v = stage.Running
stage_of Finalizing v = stage.Finalizing
stage_of Succeeded v = stage.Ended (outcome.Succeeded v)
stage_of Errored v = stage.Ended (outcome.Errored v)
stage_of Canceled v = stage.Ended outcome.Canceled

-- the fiber has ended with a value or an error code
abbrev pub has_value : Stage → Bool
has_value stage.Running = false
has_value stage.Finalizing = false
has_value (stage.Ended (outcome.Succeeded v)) = true
has_value (stage.Ended (outcome.Errored v)) = true
has_value (stage.Ended outcome.Canceled) = false
