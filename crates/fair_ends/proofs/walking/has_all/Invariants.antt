use Rattle.std.{proofs.Common.{◌≡◌, ℕ, ◌<◌, Some}, specs.List.slice_get}
use mathlib.Core.Logic.{◌⊎◌}
use Rattle.world_search.specs.Lists.{IsIn}
use Rattle.fair_ends.specs.{declared.table.Edge.Edge, Private.Tables.IsStill}
use Rattle.fair_ends.proofs.walking.has_all.Given as goal

abbrev pub invariant-loop-fiber : goal.invariant-loop-fiber
invariant-loop-fiber l =
    (f : ℕ) (e : Edge) → f < l.fiber → slice_get l.row.edges.items f ≡ Some e → IsIn f l.entries ⊎ IsStill l.begins f e
