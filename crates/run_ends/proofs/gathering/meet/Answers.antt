use Rattle.std.proofs.Common.{◌∙◌, ◌++◌, ◌∷◌, [], ap}
use Rattle.cell_registry.specs.Passes.{PassView}
use Rattle.run_ends.proofs.{Meeting.{home_of, meets_first, meets_more, pass_here}, Taking.{first_taken, next_taken}}
use Rattle.run_ends.proofs.gathering.meet.Goals as goal

pub loop-task-init : goal.loop-task-init
loop-task-init c =
    let p = c.into_parts-pass.ensures in
    let later = c.in_ok-push.ensures.pushed ∙ ap (λ l. l ++ c.into_parts-pass.result.1 ∷ []) c.in_ok-configs.ensures.items in (
      meets_first c.args.registry.now c.args.tasks.items c.pop.new.self.items c.in-Some.task c.requires c.in-Some.ensures.items p.lawful
          c.into_parts-pass.result.0 c.into_parts-pass.result.1 p.pass p.state c.push.new.configs.items later,
      first_taken c.args.tasks.items c.pop.new.self.items c.in-Some.task c.into_parts-pass.result.0 c.push.new.configs.items
          c.into_parts-pass.result.1 c.in-Some.ensures.items p.state p.pass later p.lawful,
      pass_here c.args.registry.now c.args.tasks.items c.pop.new.self.items c.in-Some.task c.requires c.in-Some.ensures.items p.lawful
          c.into_parts-pass.result.0 c.into_parts-pass.result.1 p.pass p.state,
      home_of c.args.registry.now c.args.tasks.items c.pop.new.self.items c.in-Some.task c.requires c.in-Some.ensures.items p.lawful,
    )

pub meet-met-requires-clause-second : goal.meet-met-requires-clause-second
meet-met-requires-clause-second c =
    let p = c.into_parts-pass-in-Some-pop.ensures in
    pass_here c.args.registry.now c.loop-task.tasks.items c.pop-in-loop-task.new.self.items c.in-Some-pop.task c.loop-task.invariant.3
    c.in-Some-pop.ensures.items p.lawful c.into_parts-pass-in-Some-pop.result.0 c.into_parts-pass-in-Some-pop.result.1 p.pass p.state

pub loop-task-preserved : goal.loop-task-preserved
loop-task-preserved c =
    let p = c.into_parts-pass-in-Some-pop.ensures in
    let i = c.loop-task.invariant in (
      meets_more c.args.registry.now c.loop-task.tasks.items c.pop-in-loop-task.new.self.items c.in-Some-pop.task i.3 c.in-Some-pop.ensures.items
          p.lawful c.into_parts-pass-in-Some-pop.result.0 c.into_parts-pass-in-Some-pop.result.1 p.pass p.state
          c.args.tasks.items c.loop-task.met c.meet-met.result c.loop-task.configs.items c.push-in-Some-pop.new.configs.items i.1.still i.0
          c.meet-met.ensures.met c.meet-met.ensures.lawful c.in_ok-push-2.ensures.pushed,
      next_taken c.args.tasks.items c.loop-task.tasks.items c.pop-in-loop-task.new.self.items c.in-Some-pop.task
          c.into_parts-pass-in-Some-pop.result.0 c.loop-task.met c.meet-met.result c.loop-task.configs.items c.push-in-Some-pop.new.configs.items
          c.into_parts-pass-in-Some-pop.result.1 i.1 c.in-Some-pop.ensures.items p.state p.pass c.in_ok-push-2.ensures.pushed p.lawful c.meet-met.ensures.met,
      ap (λ (x : PassView). x.registry) c.meet-met.ensures.met.same ∙ i.2,
      home_of c.args.registry.now c.loop-task.tasks.items c.pop-in-loop-task.new.self.items c.in-Some-pop.task i.3 c.in-Some-pop.ensures.items p.lawful,
    )

pub returns-clause-gathered : goal.returns-clause-gathered
returns-clause-gathered c = λ code most each. (c.loop-task.invariant.0 code most each).0
