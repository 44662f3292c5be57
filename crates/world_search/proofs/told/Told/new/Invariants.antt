use Rattle.std.proofs.Common.{◌≡◌, ◌-◌, ◌≤◌, ℕ, [], length}
use Rattle.std.specs.{Prelude.Some, List.slice_get}
use Rattle.std.specs.declared.alloc.Global.{Global}
use Rattle.std.specs.declared.vec.Vec.{Vec}
use Rattle.world_search.proofs.told.Told.new.Given as goal

-- the buckets so far are empty
abbrev pub invariant-loop-alloc : goal.invariant-loop-alloc
invariant-loop-alloc l = record {
  few : length l.buckets.items ≤ l.many;
  none : (b : ℕ) (v : Vec ℕ Global) → slice_get l.buckets.items b ≡ Some v → v.items ≡ [];
}

abbrev pub decreases-loop-alloc : goal.decreases-loop-alloc
decreases-loop-alloc l = l.many - length l.buckets.items
