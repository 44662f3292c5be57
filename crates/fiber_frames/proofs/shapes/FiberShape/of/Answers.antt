use Rattle.fiber_frames.proofs.Prelude.{◌≡◌, ap, ◌∙◌, rules, Fiber, ask_of, child, move, outcome_of, fiber_in, unmarked}
use Rattle.fiber_frames.proofs.Unmarking.{ask_unmarked, child_unmarked, move_unmarked, unmarked_outcome}
use Rattle.fiber_frames.proofs.shapes.FiberShape.of.Goals as goal

pub returns-clause-shape : goal.returns-clause-shape
returns-clause-shape c =
    let boxed : c.in_ok-machine.machine.value ≡ c.in_ok-shape.field-0 = search rules in
    ap fiber_in boxed ∙ c.in_ok-shape.ensures ∙ ap unmarked c.machine.ensures

pub returns-clause-asks : goal.returns-clause-asks
returns-clause-asks c = ap ask_of (returns-clause-shape c) ∙ ask_unmarked c.args.fiber.now c.ask.ensures.reached

pub returns-clause-ends : goal.returns-clause-ends
returns-clause-ends c = ap outcome_of (returns-clause-shape c) ∙ unmarked_outcome c.args.fiber.now

pub returns-clause-children : goal.returns-clause-children
returns-clause-children c = λ n. ap (λ (g : Fiber). unmarked (child g n)) (returns-clause-shape c) ∙ child_unmarked c.args.fiber.now c.ask.ensures.reached n

pub returns-clause-moves : goal.returns-clause-moves
returns-clause-moves c = λ r. ap (λ (g : Fiber). unmarked (move g r)) (returns-clause-shape c) ∙ move_unmarked c.args.fiber.now c.ask.ensures.reached r
