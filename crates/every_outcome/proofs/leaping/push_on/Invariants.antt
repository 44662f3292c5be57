use Rattle.std.proofs.Common.{◌≡◌, ◌-◌, Bool, false, Ok}
use Rattle.scheduled_core.specs.Fitting.{AllFit}
use Rattle.every_outcome.specs.{Places.unmarked_place, Private.Reduced.{IsTrail, moved_on}}
use Rattle.every_outcome.proofs.leaping.push_on.Given as goal

-- the moves so far have led here, and the others lead on
abbrev pub invariant-loop-again : goal.invariant-loop-again
invariant-loop-again l = record {
  goes : (says : Bool) →
      moved_on says l.stores 50 l.fiber (unmarked_place says l.initial.world) ≡ moved_on says l.stores (50 - l._again) l.fiber (unmarked_place says l.world);
  stays : l.moved ≡ false → (says : Bool) → unmarked_place says l.world ≡ unmarked_place says l.initial.world;
  fits : AllFit l.world.world;
  trail : (says : Bool) → IsTrail says l.initial.trail.items l.trail.items (unmarked_place says l.initial.world) (Ok (unmarked_place says l.world));
}
