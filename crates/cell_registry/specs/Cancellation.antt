-- Where a cut is in a history.
use Rattle.std.specs.Prelude.{◌≡◌, ℕ, List, [], ◌∷◌, ◌++◌, ◌⊎◌}
use Rattle.cell_registry.specs.declared.call.Call.TheVariants.{Cancel, Cut}
use Rattle.cell_registry.specs.declared.call.Entry.{Entry}

-- some call requested the cancellation of f
abbrev pub WasCancelled : List Entry → ℕ → Type 0
WasCancelled [] f = ⊥
WasCancelled (e ∷ es) f = (e.call ≡ Cancel f) ⊎ WasCancelled es f

-- cut after cancel: each cut comes after a request for its fiber's cancellation
abbrev pub CutsAfterCancel : List Entry → Type 0
CutsAfterCancel h = (before rest : List Entry) (e : Entry) → h ≡ before ++ e ∷ rest → e.call ≡ Cut →
    WasCancelled before e.by
