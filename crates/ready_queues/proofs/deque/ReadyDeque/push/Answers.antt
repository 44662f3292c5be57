use Rattle.std.proofs.Common.{◌∷◌, []}
use Rattle.ready_queues.{specs.Moments.PutLast, proofs.{Ledgers.puts, Results.ok_of_first}}
use Rattle.crossbeam_deque.specs.Handles.{worker_view}
use Rattle.ready_queues.proofs.deque.ReadyDeque.push.Goals as goal

pub push_as-requires-clause-pushes : goal.push_as-requires-clause-pushes
push_as-requires-clause-pushes c = puts _ _ _

pub returns-clause-ok : goal.returns-clause-ok
returns-clause-ok c =
    rw (← c.self.view_is)
    (ok_of_first c.push_as.result (PutLast (worker_view c.self.inside.deque) (c.args.number ∷ []) (worker_view c.push_as.new.self)) _ _
    c.push_as.ensures.rule)
