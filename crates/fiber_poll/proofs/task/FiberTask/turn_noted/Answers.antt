use Rattle.std.proofs.Common.{◌≡◌, ◌∙◌, sym, subst}
use Rattle.fiber_frames.specs.{Fiber.ask_of, Leading.{IsGoing, way_of}}
use Rattle.fiber_poll.{specs.Tasks.{IsTask, TaskView}, proofs.{Outcomes.{not_over, over_asked}, Staying.stays_of, Turnings.{broken_here, over_here}}}
use Rattle.fiber_frames.specs.declared.ask.Ask.TheVariants as ask
use Rattle.fiber_poll.proofs.task.FiberTask.turn_noted.Goals as goal

pub returns-in-Over-clause-turned : goal.returns-in-Over-clause-turned
returns-in-Over-clause-turned g c = over_here _ _ c.self.view_is c.args.budget c.ask.result c.in-Over.outcome c.ask.ensures.tells c.in-Over.is

pub returns-in-Broken-clause-stopped : goal.returns-in-Broken-clause-stopped
returns-in-Broken-clause-stopped g c =
    broken_here _ _ c.self.view_is c.args.budget c.ask.result c.self.invariant c.requires.budget c.ask.ensures.tells c.in-Broken.is

pub go-requires : goal.go-requires
go-requires g c = record {
  going = subst (λ (t : TaskView). IsGoing (way_of t.state.running)) c.self.view_is
      (not_over c.self.inside.config (λ o e. c.in_default.not-Over o (c.ask.ensures.ask ∙ e)) (λ e. c.in_default.not-Broken (c.ask.ensures.ask ∙ e)));
}

pub returns-in_default : goal.returns-in_default
returns-in_default g c = record {
  turned = c.go.ensures.turned;
  stopped = c.go.ensures.stopped;
  ended = λ o e. absurd
      (c.in_default.not-Over o
      (c.ask.ensures.ask ∙ subst (λ (t : TaskView). ask_of t.state ≡ ask.Over o) (sym c.self.view_is) (over_asked c.args.self.now.state o e)));
  stays = λ home code most of. stays_of code most home c.args.self.now c.go.new.self c.args.budget c.go.result (subst IsTask c.self.view_is c.self.invariant)
      c.go.ensures.turned c.go.ensures.stopped of;
  broken = λ e. absurd (c.in_default.not-Broken (c.ask.ensures.ask ∙ subst (λ (t : TaskView). ask_of t.state ≡ ask.Broken) (sym c.self.view_is) e));
}
