use Rattle.std.proofs.Common.{◌≡◌, ℕ, refl, sym, ap, ◌∙◌}
use Rattle.fiber_frames.specs.declared.config.Moved.{Moved}
use Rattle.fiber_frames.specs.declared.config.Moved.TheVariants as moves
use Rattle.fiber_frames.specs.Fiber.{Fiber, child, kind_of}
use Rattle.fiber_frames.specs.Moves.{told}
use Rattle.fiber_frames.specs.Rows.{RowKind, Plain, Waited, Ceded, Born, Ended, number_in}
use Rattle.fiber_tests.proofs.frames.stepped.Goals as goal

-- the next mask number of the child that a move tells of
abbrev born_next : Moved → ℕ
born_next (moves.Born c) = c.next
born_next _ = 0

told_next : (c : Fiber) (k : RowKind) → c.next ≡ 0 → born_next (told c k) ≡ 0
told_next c Plain h = refl
told_next c Waited h = refl
told_next c Ceded h = refl
told_next c (Born t) h = h
told_next c (Ended o) h = refl

pub returns-in-Born-clause-child : goal.returns-in-Born-clause-child
returns-in-Born-clause-child c =
    ap born_next (sym c.in-Born.is ∙ c.in_ok-outcome.ensures.kind) ∙
    told_next (child c.args.config.now (number_in c.args.reply)) (kind_of c.args.config.now c.args.reply) refl
