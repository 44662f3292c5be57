use Rattle.std.proofs.{Common.{rules, ◌≡◌, Some}, lemmas.List.Elements.All-push}
use Rattle.cell_registry.specs.declared.limits.RunError.{RunError}
use Rattle.ready_queues.specs.declared.faults.Learned.{Learned}
use Rattle.ready_queues.proofs.faults.FirstFault.known_to_one.Goals as goal

pub loop-worker-preserved : goal.loop-worker-preserved
loop-worker-preserved g c =
    let before = c.loop-worker.invariant.3 in
    let known : Learned g.row.C.Denot g.C.FaultCell → Type 0 = λ one. (e : RunError) → one.note.known ≡ Some e → c.learn.new.mine.known ≡ Some e in (
      search rules,
      search rules,
      search rules,
      All-push known c.loop-worker.yielded c.in-Some.worker (λ k d l e is. c.learn.ensures.kept e (before k d l e is)) c.learn.ensures.told,
    )
