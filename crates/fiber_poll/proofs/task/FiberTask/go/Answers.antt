use Rattle.std.proofs.Common.{◌+◌, subst, sym}
use Rattle.fiber_poll.{specs.{Private.Told.{IsAsked, Made}, Tasks.TaskView}, proofs.Turnings.{Loops, loop_asked, loop_bears, loop_begins, loop_goes}}
use Rattle.fiber_poll.proofs.{Turnings.loop_tells, task.FiberTask.go.Goals.{in-Silent+in_ok-end-in-Silent+in-Plain, in-Look+in_ok-end-in-Look+in-Plain-2}}
use Rattle.fiber_poll.proofs.task.FiberTask.go.Goals.{in_default+in_ok-end-in_default+in-Plain-3}
use Rattle.fiber_frames.specs.declared.ask.Ask.TheVariants as ask
use Rattle.fiber_poll.proofs.task.FiberTask.go.Goals as goal

pub loop-made-init : goal.loop-made-init
loop-made-init g c = loop_begins c.args.self.now c.requires.going

pub returns-in-Start-clause-turned : goal.returns-in-Start-clause-turned
returns-in-Start-clause-turned g c =
    loop_bears c.args.self.now c.loop-made.self c.start.new.self c.loop-made.made c.args.budget
    c.loop-made.invariant c.loop-made-test.true c.in_ok-start-in-Start.field-0
    c.in_ok-start-in-Start.ensures.born

pub step-requires-clause-asked : goal.step-requires-clause-asked
step-requires-clause-asked g c =
    loop_asked _ _ _ c.self.view_is (subst (λ a. IsAsked c.self.inside.config a) c.in-Silent.is (record {
      tells = c.ask.ensures.tells;
      leads = c.ask.ensures.leads;
      names = c.ask.ensures.names;
      moves_names = c.ask.ensures.moves_names;
      child_names = c.ask.ensures.child_names;
    }))

pub step-requires-in-Look-clause-asked : goal.step-requires-in-Look-clause-asked
step-requires-in-Look-clause-asked g c =
    loop_asked _ _ _ c.self.view_is (subst (λ a. IsAsked c.self.inside.config a) c.in-Look.is (record {
      tells = c.ask.ensures.tells;
      leads = c.ask.ensures.leads;
      names = c.ask.ensures.names;
      moves_names = c.ask.ensures.moves_names;
      child_names = c.ask.ensures.child_names;
    }))

pub step-requires-in_default-clause-asked : goal.step-requires-in_default-clause-asked
step-requires-in_default-clause-asked g c =
    loop_asked _ _ _ c.self.view_is (record {
      tells = c.ask.ensures.tells;
      leads = c.ask.ensures.leads;
      names = c.ask.ensures.names;
      moves_names = c.ask.ensures.moves_names;
      child_names = c.ask.ensures.child_names;
    })

pub returns-in_default-2 : goal.returns-in_default-2
returns-in_default-2 g c = record {
  turned = loop_tells c.args.self.now c.loop-made.self c.step.new.self c.loop-made.made c.args.budget
      c.loop-made.invariant c.loop-made-test.true ask.Silent c.in_ok-end-in-Silent.end c.told.result
      c.in_ok-end-in-Silent.ensures.made c.told.ensures.event c.told.ensures.last;
  stopped = tt;
}

pub returns-in_default-3 : goal.returns-in_default-3
returns-in_default-3 g c = record {
  turned = loop_tells c.args.self.now c.loop-made.self c.step-in-Look.new.self c.loop-made.made c.args.budget
      c.loop-made.invariant c.loop-made-test.true ask.Look c.in_ok-end-in-Look.end
      c.told-in_default-3.result c.in_ok-end-in-Look.ensures.made c.told-in_default-3.ensures.event
      c.told-in_default-3.ensures.last;
  stopped = tt;
}

pub returns-in_default-4 : goal.returns-in_default-4
returns-in_default-4 g c = record {
  turned = loop_tells c.args.self.now c.loop-made.self c.step-in_default.new.self c.loop-made.made
      c.args.budget c.loop-made.invariant c.loop-made-test.true c.ask.result c.in_ok-end-in_default.end
      c.told-in_default-4.result c.in_ok-end-in_default.ensures.made c.told-in_default-4.ensures.event
      c.told-in_default-4.ensures.last;
  stopped = tt;
}

pub loop-made-preserved : goal.loop-made-preserved
loop-made-preserved g c =
    let mid = c.loop-made.self in
    let Next : TaskView → Type 0 = λ t. Loops c.args.self.now (c.loop-made.made + 1) t in
    elim c.match-ask.branch [
      | in-Silent+in_ok-end-in-Silent+in-Plain w ↦
          subst Next (sym w.self-is) (loop_goes c.args.self.now mid w.step.new.self c.loop-made.made ask.Silent
          c.loop-made.invariant
          (subst (λ s. Made mid ask.Silent s w.step.new.self) w.in-Plain.is
          w.in_ok-end-in-Silent.ensures.made))
      | in-Look+in_ok-end-in-Look+in-Plain-2 w ↦
          subst Next (sym w.self-is) (loop_goes c.args.self.now mid w.step-in-Look.new.self c.loop-made.made
          ask.Look c.loop-made.invariant
          (subst (λ s. Made mid ask.Look s w.step-in-Look.new.self) w.in-Plain-2.is
          w.in_ok-end-in-Look.ensures.made))
      | in_default+in_ok-end-in_default+in-Plain-3 w ↦
          subst Next (sym w.self-is) (loop_goes c.args.self.now mid w.step-in_default.new.self c.loop-made.made
          c.ask.result c.loop-made.invariant
          (subst (λ s. Made mid c.ask.result s w.step-in_default.new.self) w.in-Plain-3.is
          w.in_ok-end-in_default.ensures.made))
    ]
