-- A fault of the core that tells how many numbers a band has tells its limit.
use Rattle.std.proofs.Common.{◌≡◌, ℕ, ◌==◌, Bool, true, false, cond, List, [], ◌∷◌, Option, None, Some, Result, Ok, Err, fold, refl}
use Rattle.std.specs.List.{slice_get}
use Rattle.derived_ops.specs.Tree.{Tree}
use Rattle.fiber_frames.specs.Fiber.{Fiber, ask_of}
use Rattle.cell_registry.specs.{Bands.limit_of, Cells.{Cells, cell_of, refusal}, declared.{call.Call.Call, limits.{Band.Band, CellError.CellError}}}
use Rattle.cell_registry.specs.declared.limits.{Limits.Limits, RunError.RunError}
use Rattle.scheduled_core.specs.{declared.wish.Wish.{Wish, TheVariants.{Shared, Alone, Nothing}}, Core.{World, answered, core, entered, first_world, turned}}
use Rattle.scheduled_core.specs.Core.{wish_of, wished}
use Rattle.cell_registry.specs.declared.call.Call.TheVariants as call
use Rattle.cell_registry.specs.declared.limits.Band.TheVariants as band
use Rattle.cell_registry.specs.declared.limits.CellError.TheVariants as cell
use Rattle.cell_registry.specs.declared.limits.RunError.TheVariants as run

-- a refused call tells the limit
abbrev IsWithin : Limits → CellError → Type 0
IsWithin k (cell.Full b n) = n ≡ limit_of b k
IsWithin k (cell.Spent n) = Unit {0}

full_within : (c : Bool) (k : Limits) (b : Band) (n : ℕ) (e : CellError) → n ≡ limit_of b k → cond c (Some (cell.Full b n)) None ≡ Some e →
    IsWithin k e
full_within true k b n (cell.Full d m) is same = let q = same in cc
full_within true k b n (cell.Spent m) is same = tt
full_within false k b n e is same = absurd (let no = same in cc)

spent_within : (c : Bool) (k : Limits) (n : ℕ) (e : CellError) → cond c (Some (cell.Spent n)) None ≡ Some e → IsWithin k e
spent_within true k n (cell.Full d m) same = absurd (let no = same in cc)
spent_within true k n (cell.Spent m) same = tt
spent_within false k n e same = absurd (let no = same in cc)

refusal_within : (k : Limits) (s : Cells) (by : ℕ) (c : Call) (e : CellError) → refusal k s by c ≡ Some e → IsWithin k e
unfolding refusal
refusal_within k s by call.Start e h = full_within (s.next_fiber == k.fibers) k band.Fibers k.fibers e refl h
refusal_within k s by call.Mask e h = spent_within ((cell_of s by).count == k.count) k (cell_of s by).count e h
refusal_within k s by call.Unmask e h = spent_within ((cell_of s by).count == k.count) k (cell_of s by).count e h
refusal_within k s by call.Cut e h = spent_within ((cell_of s by).count == k.count) k (cell_of s by).count e h
refusal_within k s by (call.Finish o) e h = spent_within ((cell_of s by).count == k.count) k (cell_of s by).count e h
refusal_within k s by call.NewRef e h = full_within (s.next_ref == k.refs) k band.Refs k.refs e refl h
refusal_within k s by call.NewDeferred e h = full_within (s.next_deferred == k.deferreds) k band.Deferreds k.deferreds e refl h
refusal_within k s by _ e h = absurd (let no = h in cc)

-- and so does the entry that makes it
answered_full : (k : Limits) (w : World) (f : ℕ) (g : Fiber) (c : Call) (o : Option CellError) → ((e : CellError) → o ≡ Some e → IsWithin k e) →
    (b : Band) (n : ℕ) → answered w f g c o ≡ Err (run.Full b n) → n ≡ limit_of b k
answered_full k w f g c None within b n h = absurd (let no = h in cc)
answered_full k w f g c (Some (cell.Full d m)) within b n h =
    let is : m ≡ limit_of d k = within (cell.Full d m) refl in
    let same : Err (run.Full d m) ≡ Err (run.Full b n) = h in cc
answered_full k w f g c (Some (cell.Spent m)) within b n h = absurd (let no = h in cc)

wished_full : (k : Limits) (w : World) (f : ℕ) (g : Fiber) (x : Wish) (b : Band) (n : ℕ) → wished k w f g x ≡ Err (run.Full b n) → n ≡ limit_of b k
wished_full k w f g (Shared c) b n h = answered_full k w f g c (refusal k w.cells f c) (refusal_within k w.cells f c) b n h
wished_full k w f g Alone b n h = absurd (let no = h in cc)
wished_full k w f g Nothing b n h = absurd (let no = h in cc)

turned_full : (k : Limits) (w : World) (f : ℕ) (o : Option Fiber) (b : Band) (n : ℕ) → turned k w f o ≡ Err (run.Full b n) → n ≡ limit_of b k
turned_full k w f None b n h = absurd (let no = h in cc)
turned_full k w f (Some g) b n h = wished_full k w f g (wish_of (ask_of g)) b n h

abbrev IsLimited : Limits → Result World RunError → Type 0
IsLimited k y = (b : Band) (n : ℕ) → y ≡ Err (run.Full b n) → n ≡ limit_of b k

entered_full : (k : Limits) (y : Result World RunError) (f : ℕ) → IsLimited k y → IsLimited k (entered k y f)
entered_full k (Ok w) f so_far b n h = turned_full k w f (slice_get w.fibers f) b n h
entered_full k (Err e) f so_far b n h = so_far b n h

all_full : (k : Limits) (y : Result World RunError) (schedule : List ℕ) → IsLimited k y → IsLimited k (fold (entered k) y schedule)
all_full k y [] so_far = so_far
all_full k y (f ∷ s) so_far = all_full k (entered k y f) s (entered_full k y f so_far)

pub core_full : (code : Tree) (k : Limits) (schedule : List ℕ) (b : Band) (n : ℕ) → core code k schedule ≡ Err (run.Full b n) → n ≡ limit_of b k
unfolding core
core_full code k schedule = all_full k (Ok (first_world code k)) schedule (λ b n h. absurd (let no = h in cc))
