use Rattle.std.proofs.Common.{◌∷◌, []}
use Rattle.ready_queues.{specs.Moments.PutLast, proofs.{Ledgers.puts, Results.ok_of}}
use Rattle.crossbeam_deque.specs.Injected.{injector_view}
use Rattle.ready_queues.proofs.injector.InjectorEnd.push.Goals as goal

pub push_as-requires-clause-rule : goal.push_as-requires-clause-rule
push_as-requires-clause-rule g c = puts _ _ _

pub returns-clause-ok : goal.returns-clause-ok
returns-clause-ok g c =
    rw (← c.self.view_is)
    (ok_of c.push_as.result (PutLast (injector_view c.self.inside.pass) (c.args.number ∷ []) (injector_view c.push_as.new.pass)) _ c.push_as.ensures.rule)
