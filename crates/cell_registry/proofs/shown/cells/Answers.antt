use Rattle.cell_registry.proofs.Prelude.{◌∙◌, arith, cell_of, fresh}
use Rattle.cell_registry.proofs.Showing.{cell_shown, one_more}
use Rattle.cell_registry.proofs.shown.cells.Goals as goal

pub loop-fiber-preserved : goal.loop-fiber-preserved
loop-fiber-preserved c s h =
    let long = h.sound.fibers in
    let less = c.loop-fiber-test.true in
    c.in_ok-push.ensures.items ∙ one_more _ s.cells c.loop-fiber.fiber c.cell.result fresh (c.loop-fiber.invariant s h) (omega arith)
    (c.cell.ensures (cell_of s c.loop-fiber.fiber)
    (rw (c.cell_place.ensures, c.value_place.ensures) (cell_shown c.args.limits c.args.words.now s c.loop-fiber.fiber h less)))
