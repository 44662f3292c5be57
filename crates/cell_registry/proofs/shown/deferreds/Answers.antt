use Rattle.cell_registry.proofs.Prelude.{◌∙◌, arith, subst, None, slice_index_or, TellsRead}
use Rattle.cell_registry.proofs.Showing.{deferred_shown, one_more}
use Rattle.cell_registry.proofs.shown.deferreds.Goals as goal

pub loop-number-preserved : goal.loop-number-preserved
loop-number-preserved c s h =
    let long = h.sound.deferreds in
    let less = c.loop-number-test.true in
    c.in_ok-push.ensures.items ∙ one_more _ s.deferreds c.loop-number.number c.read_answer.result None (c.loop-number.invariant s h) (omega arith)
    (deferred_shown c.args.limits c.args.words.now s c.loop-number.number c.read_answer.result h less
    (subst (λ p. TellsRead (slice_index_or c.args.words.now p 0) c.read_answer.result) c.deferred_place.ensures c.read_answer.ensures))
