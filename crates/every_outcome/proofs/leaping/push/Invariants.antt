use Rattle.std.proofs.Common.{◌≡◌, ◌-◌, Bool, Ok}
use Rattle.scheduled_core.specs.Fitting.{AllFit}
use Rattle.every_outcome.specs.{Places.unmarked_place, Private.Reduced.{IsTrail, pushed}}
use Rattle.every_outcome.proofs.leaping.push.Given as goal

-- the moves so far have led here, and the others lead on
abbrev pub invariant-loop-round : goal.invariant-loop-round
invariant-loop-round l = record {
  goes : (says : Bool) → pushed says l.stores 12 (unmarked_place says l.initial.world) ≡ pushed says l.stores (12 - l._round) (unmarked_place says l.world);
  fits : AllFit l.world.world;
  trail : (says : Bool) → IsTrail says l.initial.trail.items l.trail.items (unmarked_place says l.initial.world) (Ok (unmarked_place says l.world));
}
