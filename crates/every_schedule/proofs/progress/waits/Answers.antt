use Rattle.std.proofs.Common.{◌∙◌, sym, arith, subst}
use Rattle.fiber_frames.specs.{Naming.AskNamed}
use Rattle.scheduled_core.{specs.Fitting.given_by, proofs.Settling.{word_named}}
use Rattle.every_schedule.proofs.Stopping.{join_told, read_told}
use Rattle.every_schedule.proofs.progress.waits.Goals as goal

pub has_ended-requires : goal.has_ended-requires
has_ended-requires c =
    let most = c.limits.ensures.lawful.sound.next_fiber in
    let named = word_named (given_by c.args.registry.now.state) c.args.config.now c.requires.names in
    let low = subst (AskNamed (given_by c.args.registry.now.state) c.args.config.now.number) (sym c.word_ask.ensures ∙ c.in-Join.is) named in
    omega arith

pub is_empty-requires : goal.is_empty-requires
is_empty-requires c =
    let most = c.limits.ensures.lawful.sound.next_deferred in
    let named = word_named (given_by c.args.registry.now.state) c.args.config.now c.requires.names in
    let low = subst (AskNamed (given_by c.args.registry.now.state) c.args.config.now.number) (sym c.word_ask.ensures ∙ c.in-Read.is) named in
    omega arith

pub returns-in-Join : goal.returns-in-Join
returns-in-Join c =
    let g = c.args.config.now in
    join_told c.args.registry.now.state g.number g c.in-Join.fiber c.has_ended.result (sym c.in-Join.is ∙ c.word_ask.ensures) c.has_ended.ensures.ended

pub returns-in-Read : goal.returns-in-Read
returns-in-Read c =
    let g = c.args.config.now in
    read_told c.args.registry.now.state g.number g c.in-Read.number c.is_empty.result (sym c.in-Read.is ∙ c.word_ask.ensures) c.is_empty.ensures.empty
