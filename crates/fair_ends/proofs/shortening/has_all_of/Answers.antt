use Rattle.std.proofs.{Common.arith, lemmas.Option.slice_get_within}
use Rattle.fair_ends.proofs.shortening.has_all_of.Goals as goal

pub returns : goal.returns
returns c = λ yes f i.
    let low = slice_get_within c.args.cycle.now i.0 f i.1 in
    c.loop-fiber.invariant i.0 f (omega arith) i.1
