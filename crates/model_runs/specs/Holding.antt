-- The values of refs at a moment.
use Rattle.std.specs.Prelude.{◌≡◌}
use Rattle.cell_registry.specs.Cells.{Cells, ref_of}
use Rattle.model_runs.specs.declared.result.HeldRef.{HeldRef}

-- the ref holds this value in this registry
abbrev pub IsHeldIn : Cells → HeldRef → Type 0
IsHeldIn s h = h.value ≡ ref_of s h.number
