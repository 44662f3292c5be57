use Rattle.std.proofs.Common.{◌≡◌, ◌-◌, Bool, false, Ok}
use Rattle.scheduled_core.specs.Fitting.{AllFit}
use Rattle.every_outcome.specs.{Places.unmarked_place, Private.Reduced.{IsTrail, swept}}
use Rattle.every_outcome.proofs.leaping.push_once.Given as goal

-- the moves so far have led here, and those of the other fibers lead on
abbrev pub invariant-loop-done : goal.invariant-loop-done
invariant-loop-done l = record {
  goes : (says : Bool) → swept says l.stores l.born (unmarked_place says l.initial.world) ≡ swept says l.stores (l.born - l.done) (unmarked_place says l.world);
  stays : l.moved ≡ false → (says : Bool) → unmarked_place says l.world ≡ unmarked_place says l.initial.world;
  fits : AllFit l.world.world;
  trail : (says : Bool) → IsTrail says l.initial.trail.items l.trail.items (unmarked_place says l.initial.world) (Ok (unmarked_place says l.world));
}
