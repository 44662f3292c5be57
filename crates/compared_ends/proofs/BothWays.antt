-- What two explorations show of two programs under every schedule.
use Rattle.std.{proofs.Common.{◌≡◌, ℕ, List, ap, ◌∙◌}, specs.{Prelude.{true, Some, Result, Ok, Err, IfOk}, List.{All, slice_get}}}
use Rattle.derived_ops.specs.Tree.{Tree}
use Rattle.cell_registry.specs.declared.limits.{Limits.Limits, RunError.RunError}
use Rattle.scheduled_core.specs.{Core.{World, core, reported}, Finals.IsSettled}
use Rattle.world_search.specs.declared.answers.Bounds.{Bounds}
use Rattle.every_schedule.{specs.{declared.exploration.{Answer.Answer, Exploration.Exploration}, Explored.{IsCovered, IsListed, IsReached}}, proofs.Told.all_at}
use Rattle.compared_ends.specs.{declared.{basis.Basis.Basis, comparison.Extra.Extra}, Comparisons.{AreSeenIn, CanEnd, EndsWithin, IsExplored, IsExtra}}
use Rattle.compared_ends.specs.{Comparisons.SameEnds, Private.Found.IsFound, Views.{View, viewed}}
use Rattle.compared_ends.specs.declared.comparison.Extra.TheVariants as extra

-- if a schedule led to a settled world or a fault, its report or fault is listed
listed : (k : Limits) (answers : List Answer) (x : Result World RunError) → IsCovered k answers x → IfOk x (IsSettled k) →
    IsListed answers (reported x)
listed k answers (Ok w) covered settled = covered settled
listed k answers (Err e) covered settled = covered

-- an answer's end is one that the program can come to
can_end : (basis : Basis) (code : Tree) (k : Limits) (answers : List Answer) → All (IsReached code k) answers → (i : ℕ) (a : Answer) →
    slice_get answers i ≡ Some a → (end : Result View RunError) → viewed basis a.end ≡ end → CanEnd basis code k end
can_end basis code k answers each i a at end seen =
    let it = all_at (IsReached code k) answers i a at each in record {
      schedule = a.schedule;
      ends = record { settled = it.settled; seen = ap (viewed basis) it.reached ∙ seen };
    }

module _ (basis : Basis) (c d : Tree) (k : Limits) (bounds : Bounds) (one other : Exploration) (first : IsExplored c k bounds one)
    (second : IsExplored d k bounds other) where
  -- if all ends of a complete exploration are in the other one, the other program has all ends of the first
  within : one.complete ≡ true → AreSeenIn basis one.answers other.answers → EndsWithin basis c d k
  within complete seen = λ end can.
      let found = listed k one.answers (core c k can.schedule) (first.all complete can.schedule) can.ends.settled in
      let there = seen found.0 found.1 found.2 in
      can_end basis d k other.answers second.each there.0 there.1 there.2 end (there.3 ∙ ap (viewed basis) found.3 ∙ can.ends.seen)

  -- an end that is missing in a complete exploration is no end of its program
  never : other.complete ≡ true → (end : Result View RunError) →
      ((i : ℕ) (a : Answer) → slice_get other.answers i ≡ Some a → viewed basis a.end ≡ end → ⊥) → CanEnd basis d k end → ⊥
  never complete end unseen can =
      let found = listed k other.answers (core d k can.schedule) (second.all complete can.schedule) can.ends.settled in
      unseen found.0 found.1 found.2 (ap (viewed basis) found.3 ∙ can.ends.seen)

  pub extra_told : (x : Extra) → IsFound basis one other x → IsExtra basis c d k one other x
  extra_told (extra.Answer i) found = (
    found.1,
    found.2,
    record {
      reached = all_at (IsReached c k) one.answers i found.1 found.2 first.each;
      never = never found.0 (viewed basis found.1.end) (λ j b at same. found.3 (j, b, at, same));
    },
  )
  extra_told extra.Nothing found = within found.0 found.1
  extra_told extra.Undecided found = found

pub same_ends : (basis : Basis) (c d : Tree) (k : Limits) → EndsWithin basis c d k → EndsWithin basis d c k → SameEnds basis c d k
same_ends basis c d k there back = λ end. (there end, back end)
