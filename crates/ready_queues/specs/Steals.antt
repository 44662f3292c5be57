-- The results of a steal.
use Rattle.std.specs.Prelude.{◌≡◌, ℕ, ◌∷◌, []}
use Rattle.crossbeam_deque.specs.declared.steal.Steal.{Steal}
use Rattle.crossbeam_deque.specs.declared.steal.Steal.TheVariants.{Empty, Success, Retry}
use Rattle.ready_queues.specs.declared.traffic.Traffic.{Traffic}
use Rattle.ready_queues.specs.Moments.{TookFirst, WasEmpty}

-- the first number was taken, or there was none; after `Retry`, nothing was taken
abbrev pub TellsOf : Steal ℕ → Traffic → Traffic → Type 0
TellsOf (Success n) old new = TookFirst old (n ∷ []) new
TellsOf Empty old new = (new ≡ old) × WasEmpty old
TellsOf Retry old new = new ≡ old
