use Rattle.std.proofs.Common.{◌≡◌, drop}
use Rattle.every_schedule.specs.Reduced.{keeps, others}
use Rattle.every_outcome.proofs.own_moves.is_kept.Given as goal

-- the fibers so far don't make this use of the number
abbrev pub invariant-loop-place : goal.invariant-loop-place
invariant-loop-place l =
    others (keeps l.what l.number) l.by 0 l.world.world.fibers ≡ others (keeps l.what l.number) l.by l.place (drop l.place l.world.world.fibers)
