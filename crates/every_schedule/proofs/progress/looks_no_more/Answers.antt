use Rattle.std.proofs.Common.{◌≡◌, ◌∙◌, sym, ap, subst}
use Rattle.fiber_frames.specs.{Answers.Answers, Fiber.{Fiber, TakesNumber, ask_of, move}, Leading.{Asked, Leads}, declared.ask.Ask.{Ask}}
use Rattle.every_schedule.proofs.Stopping.{look_told, takes_no_number}
use Rattle.every_schedule.proofs.progress.looks_no_more.Goals as goal

pub resume-requires-clause-fits : goal.resume-requires-clause-fits
resume-requires-clause-fits c =
    subst (λ (x : Fiber). Answers x.number (ask_of x) c.args.reply) (sym c.in_ok-next.ensures) (c.requires.1 c.args.config.now.number)

pub resume-requires-clause-in_range : goal.resume-requires-clause-in_range
resume-requires-clause-in_range c = λ takes.
    let g = c.args.config.now in
    let r = c.args.reply in
    let is = c.ask.ensures.ask in
    let answers = subst (λ (a : Ask). Answers g.number a r) (sym is) (c.requires.1 g.number) in
    let leads = subst (λ (a : Ask). Leads g a r (move g r)) is (c.ask.ensures.leads r answers) in
    absurd (takes_no_number (ask_of g) r g (move g r) c.requires.0 leads (subst (λ (x : Fiber). TakesNumber x r) c.in_ok-next.ensures takes))

pub returns : goal.returns
returns c =
    let g = c.args.config.now in
    let r = c.args.reply in
    let is = c.ask.ensures.ask in
    let answers = subst (λ (a : Ask). Answers g.number a r) (sym is) (c.requires.1 g.number) in
    let leads = subst (λ (a : Ask). Leads g a r (move g r)) is (c.ask.ensures.leads r answers) in
    let tells = subst (Asked g) is c.ask.ensures.tells in
    let moved : c.resume.new.self ≡ move g r = c.in_ok-resume.ensures.state ∙ ap (λ (x : Fiber). move x r) c.in_ok-next.ensures in
    look_told (ask_of g) r g (move g r) c.requires.0 tells leads c.is_look.result c.ask-2.result c.is_look.ensures.yes c.is_look.ensures.no
    (subst (λ (x : Fiber). Asked x c.ask-2.result) moved c.ask-2.ensures.tells) (c.ask-2.ensures.ask ∙ ap ask_of moved)
