-- What a sample of schedules reports of claims.
use Rattle.std.specs.Prelude.{◌≡◌, ℕ, List, length, Some}
use Rattle.std.specs.List.{All, slice_get}
use Rattle.derived_ops.specs.Tree.{Tree}
use Rattle.cell_registry.specs.declared.limits.Limits.{Limits}
use Rattle.world_search.specs.declared.claims.Met.{Met}
use Rattle.world_search.specs.Claims.{IsFound}
use Rattle.every_schedule.specs.declared.claims.ClaimWord.{ClaimWord}
use Rattle.every_schedule.specs.Claims.{MeetsOnTheWay}
use Rattle.sampled_schedules.specs.declared.comings.Drawn.{Drawn}
use Rattle.sampled_schedules.specs.Sampled.{IsDrawing}

-- no world on the way of one of these schedules meets the claim
abbrev pub IsMetByNone : Tree → Limits → List Drawn → List ClaimWord → Type 0
IsMetByNone code k drawn words = (i : ℕ) (d : Drawn) → slice_get drawn i ≡ Some d →
    MeetsOnTheWay code k words d.answer.schedule → ⊥

-- This many schedules were drawn. Each claim that a world on the way of one of them meets is in `met`.
pub record LooksThrough (code : Tree) (k : Limits) (most times : ℕ) (claims : List (List ClaimWord)) (met : List Met) :
    Type 0
  where
    pub drawn : List Drawn
    pub many : length drawn ≡ times
    pub each : All (IsDrawing code k most) drawn
    pub unmet : (i : ℕ) (words : List ClaimWord) → slice_get claims i ≡ Some words → (IsFound i met → ⊥) →
        IsMetByNone code k drawn words
