use Rattle.std.{proofs.{Common.{◌≡◌, sym, ◌∙◌, arith}, lemmas.{Grind.common_steps, Option.gets}}, specs.{Prelude.{Some, None}, List.slice_get}}
use Rattle.every_outcome.proofs.Own.{none_own, own_unmarked}
use Rattle.every_outcome.proofs.own_moves.has_own_move.Goals as goal

pub returns-in-None : goal.returns-in-None
returns-in-None c = λ says.
    let w = c.args.world.now.world in
    let none : slice_get w.fibers c.args.by ≡ None = grind (arith, common_steps, gets) in
    sym (none_own says w c.args.by none)

pub returns-in-Some : goal.returns-in-Some
returns-in-Some c = λ says.
    let w = c.args.world.now.world in
    let at : slice_get w.fibers c.args.by ≡ Some c.in-Some.fiber.now = grind (arith, common_steps, gets) in
    c.is_own.ensures.own ∙ sym (own_unmarked c.in-Some.fiber.now c.is_own.ensures.reached says w c.args.by at)
