use Rattle.std.{proofs.Common.◌≡◌, specs.Prelude.{All, Some}}
use Rattle.once_cell.specs.Once.{cell_name}
use Rattle.ready_queues.proofs.faults.FirstFault.known_to_one.Given as goal

abbrev pub invariant-loop-worker : goal.invariant-loop-worker
invariant-loop-worker g l =
    (goal.iterator-loop-worker g).can_next l.worker-iterator × (goal.iterator-loop-worker g).is_finite l.worker-iterator
    × (l.mine.cell ≡ cell_name l.self.cell.now)
    × All (λ one. (e : _) → one.note.known ≡ Some e → l.mine.known ≡ Some e) l.yielded
