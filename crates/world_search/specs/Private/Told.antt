-- The worlds that have answers, filed in buckets.
use Rattle.std.specs.Prelude.{◌≡◌, ◌⊎◌, ℕ, ◌%◌, List, length, Some}
use Rattle.std.specs.List.{slice_get}
use Rattle.std.specs.declared.alloc.Global.{Global}
use Rattle.std.specs.declared.vec.Vec.{Vec}
use Rattle.world_search.specs.declared.answers.Answer.{Answer}
use Rattle.world_search.specs.declared.landings.Landing.TheVariants as to
use Rattle.world_search.specs.Lists.{IsIn}
use Rattle.world_search.specs.Private.Listed.{IsNamed}

-- the bucket has this number
abbrev pub IsFiled : List (Vec ℕ Global) → (bucket number : ℕ) → Type 0
IsFiled buckets b n = (v : Vec ℕ Global) × (slice_get buckets b ≡ Some v) × IsIn n v.items

-- a world is added to a bucket
pub record Files (old new : List (Vec ℕ Global)) (bucket world : ℕ) : Type 0 where
  pub many : length new ≡ length old
  pub here : IsFiled new bucket world
  pub kept : (b n : ℕ) → IsFiled old b n → IsFiled new b n
  pub only : (b n : ℕ) → IsFiled new b n → (n ≡ world) ⊎ IsFiled old b n

module _ {W R : Type 0} (digest : R → ℕ) (report : W → R) (ws : List W) where
  -- each answer that is a world is in the bucket of its report, and the buckets have no other worlds
  pub record AreFiled (answers : List Answer) (buckets : List (Vec ℕ Global)) : Type 0 where
    pub each : (k j : ℕ) (a : Answer) (w : W) → slice_get answers k ≡ Some a → a.end ≡ to.World j →
        slice_get ws j ≡ Some w → IsFiled buckets (digest (report w) % length buckets) j
    pub only : (b j : ℕ) → IsFiled buckets b j → IsNamed answers (to.World j)
