use Rattle.std.proofs.Common.{List, All, IfSome, Option, set, subst, sym}
use Rattle.std.proofs.lemmas.List.Elements.{All-push, All-set}
use Rattle.fiber_poll.specs.Tasks.{IsTaskOf, TaskView}
use Rattle.task_tests.proofs.turning.turn_of.Goals as goal

pub returns-in_ok-push : goal.returns-in_ok-push
returns-in_ok-push c =
    let P : TaskView → Type 0 = IsTaskOf c.args.registry.now c.args.code.now c.args.most in
    let child : P c.in-Some.child =
    subst (λ (o : Option TaskView). IfSome o P) c.in-Some.is c.in_ok-told.ensures.child in
    let turned = All-set P c.args.tasks.now.items c.args.number c.turned.new.task c.in_ok-told.ensures.own
    c.requires.own in
    record {
      own = subst (λ (l : List TaskView). All P l) (sym c.in_ok-push.ensures.items)
          (All-push P (set c.args.tasks.now.items c.args.number c.turned.new.task) c.in-Some.child turned child);
    }
