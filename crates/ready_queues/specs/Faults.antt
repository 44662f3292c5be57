-- The faults of a run within its limits.
use Rattle.std.specs.Prelude.{◌≡◌}
use Rattle.cell_registry.specs.Bands.{limit_of}
use Rattle.cell_registry.specs.declared.limits.Limits.{Limits}
use Rattle.cell_registry.specs.declared.limits.RunError.{RunError}
use Rattle.cell_registry.specs.declared.limits.RunError.TheVariants as fault

-- if the fault reports the size of a band, it is the size under these limits
abbrev pub IsFaultWithin : Limits → RunError → Type 0
IsFaultWithin k (fault.Full band n) = n ≡ limit_of band k
IsFaultWithin k _ = Unit {0}

-- the fault, with the size of its band under these limits if it reports one
abbrev pub fault_within : Limits → RunError → RunError
fault_within k (fault.Full band n) = fault.Full band (limit_of band k)
fault_within k (fault.Spent fiber) = fault.Spent fiber
fault_within k fault.NoMemory = fault.NoMemory
fault_within k (fault.Lost fiber) = fault.Lost fiber
fault_within k fault.NoWorker = fault.NoWorker
