-- What a look at the claims of one world adds.
use Rattle.std.specs.Prelude.{◌≡◌, ◌<◌, ◌≤◌, ℕ, List, length, Some, Ok}
use Rattle.std.specs.List.{All, slice_get}
use Rattle.derived_ops.specs.Tree.{Tree}
use Rattle.cell_registry.specs.declared.limits.Limits.{Limits}
use Rattle.world_search.specs.declared.claims.Met.{Met}
use Rattle.world_search.specs.Claims.{IsBrief, IsFew, IsFound}
use Rattle.world_search.specs.Lists.{IsMore}
use Rattle.world_search.specs.Systems.{run}
use Rattle.every_schedule.specs.declared.claims.ClaimWord.{ClaimWord}
use Rattle.every_schedule.specs.Claims.{IsMetIn, Meets, first_view, viewed}
use Rattle.every_schedule.specs.Places.{Place, first_place, stepped}

-- the entries lead to this place, and set these refs
abbrev pub IsAt : Tree → Limits → Place → (seen entries : List ℕ) → Type 0
IsAt code k p seen entries =
    run (viewed stepped) (Ok (first_view (first_place code k))) entries ≡ Ok record { place = p; seen = seen }

-- The second list extends the first by claims that are met, each with a schedule that is no longer than these entries
-- and names no other fibers.
pub record AddsMet (code : Tree) (k : Limits) (claims : List (List ClaimWord)) (entries : List ℕ) (old new : List Met) :
    Type 0
  where
    pub more : IsMore old new
    pub met : All (IsMetIn code k claims) old → All (IsMetIn code k claims) new
    pub few : All (λ f. f < 1000) entries → All (IsFew 1000) old → All (IsFew 1000) new
    pub brief : (most : ℕ) → length entries ≤ most → All (IsBrief most) old → All (IsBrief most) new

-- each of the first `number` claims that these entries lead to is in the list
abbrev pub AreFoundBelow : Tree → Limits → List (List ClaimWord) → List ℕ → List Met → ℕ → Type 0
AreFoundBelow code k claims entries met number = (i : ℕ) (words : List ClaimWord) → i < number →
    slice_get claims i ≡ Some words → Meets code k words entries → IsFound i met
