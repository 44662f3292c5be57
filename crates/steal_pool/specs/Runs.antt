-- The limits of a run, and the children of a turn in it.
use Rattle.std.specs.Prelude.{Option}
use Rattle.cell_registry.specs.declared.limits.Limits.{Limits}
use Rattle.fiber_poll.specs.declared.turn.Turn.{Turn}
use Rattle.fiber_poll.specs.declared.turn.Turn.TheVariants as turn
use Rattle.wait_bay.specs.Names.{Named, IsNamed}
use Rattle.steal_pool.specs.declared.options.Options.{Options}

-- the limits of a run with these options
abbrev pub limits_of : Options → Limits
limits_of o = record { fibers = o.fibers; refs = o.refs; deferreds = o.deferreds; count = o.count }

-- a fiber that the turn started belongs to what is named, too
abbrev pub ChildIsNamed : Option Named → Turn → Type 0
ChildIsNamed named (turn.Started c) = IsNamed named c
ChildIsNamed named _ = Unit {0}
