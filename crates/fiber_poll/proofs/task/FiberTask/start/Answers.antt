use Rattle.std.proofs.Common.{◌-◌}
use Rattle.fiber_poll.{specs.Private.Told.IsAsked, proofs.{Births.{here_bears, here_fits, here_moved}, Steps.looked_task}}
use Rattle.fiber_poll.proofs.task.FiberTask.start.Goals as goal

pub invariant_of-self : goal.invariant_of-self
invariant_of-self g c = looked_task _ c.start.new.pass c.self.invariant c.start.ensures.lawful c.start.ensures.same c.in-Err.ensures.given.look.seen

pub new-requires-clause-fits : goal.new-requires-clause-fits
new-requires-clause-fits g c =
    let known : IsAsked c.self.inside.config c.ask.result =
    record {
      tells = c.ask.ensures.tells;
      leads = c.ask.ensures.leads;
      names = c.ask.ensures.names;
      moves_names = c.ask.ensures.moves_names;
      child_names = c.ask.ensures.child_names;
    } in
    here_fits _ _ c.self.view_is c.self.invariant c.requires.wish c.ask.result c.ask.ensures.ask known c.in-Ok.child c.start.new.pass c.number.result
    c.start.ensures.lawful c.start.ensures.same c.in-Ok.ensures.started c.number.ensures.number c.in-Ok-Born.config c.in-Ok-Born.field-0
    c.in-Ok-Born.ensures.kind c.in-Ok-Born.field-0-is

pub invariant_of-self-in-Ok-Born : goal.invariant_of-self-in-Ok-Born
invariant_of-self-in-Ok-Born g c =
    let known : IsAsked c.self.inside.config c.ask.result =
    record {
      tells = c.ask.ensures.tells;
      leads = c.ask.ensures.leads;
      names = c.ask.ensures.names;
      moves_names = c.ask.ensures.moves_names;
      child_names = c.ask.ensures.child_names;
    } in
    here_moved _ _ c.self.view_is c.self.invariant c.requires.wish c.ask.result c.ask.ensures.ask known c.in-Ok.child c.start.new.pass
    c.number.result c.start.ensures.lawful c.start.ensures.same c.in-Ok.ensures.started c.number.ensures.number c.resume.new.self
    (c.self.inside.moves - 1) c.in-Ok-Born.ensures.state

pub returns-in-Ok-Born-clause-born : goal.returns-in-Ok-Born-clause-born
returns-in-Ok-Born-clause-born g c =
    let known : IsAsked c.self.inside.config c.ask.result =
    record {
      tells = c.ask.ensures.tells;
      leads = c.ask.ensures.leads;
      names = c.ask.ensures.names;
      moves_names = c.ask.ensures.moves_names;
      child_names = c.ask.ensures.child_names;
    } in
    here_bears _ _ c.self.view_is c.self.invariant c.requires.wish c.ask.result c.ask.ensures.ask known c.in-Ok.child c.start.new.pass
    c.number.result c.start.ensures.lawful c.start.ensures.same c.in-Ok.ensures.started c.number.ensures.number c.resume.new.self
    c.in-Ok-Born.config c.in-Ok-Born.field-0 c.new.result c.requires.left c.in-Ok-Born.ensures.state c.in-Ok-Born.ensures.kind
    c.in-Ok-Born.field-0-is c.new.ensures
