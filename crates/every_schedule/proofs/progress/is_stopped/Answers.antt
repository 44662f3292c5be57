use Rattle.std.proofs.{Common.{◌∙◌, sym}, lemmas.Result.IfOk-weaker}
use Rattle.every_schedule.proofs.Stopping.{at_wait, goes_stopped, masked_stopped, requested_stopped, stopped_ended, unrequested_stopped}
use Rattle.every_schedule.proofs.progress.is_stopped.Goals as goal

pub returns-then-ends : goal.returns-then-ends
returns-then-ends c =
    let g = c.args.config.now in
    sym (stopped_ended c.args.registry.now.state g.number g (sym c.ends.ensures ∙ c.if-ends.true))

pub returns-then-not-waits : goal.returns-then-not-waits
returns-then-not-waits c =
    let g = c.args.config.now in
    sym (goes_stopped c.args.registry.now.state g.number g (sym c.ends.ensures ∙ c.if-ends.false) (sym c.waits.ensures ∙ c.if-not-waits.true))

pub returns-then-is_masked : goal.returns-then-is_masked
returns-then-is_masked c =
    let g = c.args.config.now in
    sym (masked_stopped c.args.registry.now.state g.number g (sym c.waits.ensures ∙ c.if-not-waits.false) (c.is_masked.ensures c.if-is_masked.true))

pub returns-then-not-is_requested : goal.returns-then-not-is_requested
returns-then-not-is_requested c =
    let g = c.args.config.now in
    sym (unrequested_stopped c.args.registry.now.state g.number g c.requires (sym c.waits.ensures ∙ c.if-not-waits.false)
    (sym c.is_requested.ensures ∙ c.if-not-is_requested.true))

pub is_masked_wait-requires : goal.is_masked_wait-requires
is_masked_wait-requires c =
    let g = c.args.config.now in
    at_wait c.args.registry.now.state g.number g (sym c.waits.ensures ∙ c.if-not-waits.false)

pub returns : goal.returns
returns c =
    let g = c.args.config.now in
    let told = requested_stopped c.args.registry.now.state g.number g (sym c.ends.ensures ∙ c.if-ends.false)
    (sym c.waits.ensures ∙ c.if-not-waits.false) (sym c.is_requested.ensures ∙ c.if-not-is_requested.false) in
    IfOk-weaker c.is_masked_wait.result _ _ (λ it e. e ∙ sym told) c.is_masked_wait.ensures
