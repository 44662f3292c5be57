use Rattle.std.proofs.Common.{sym, ◌∙◌, inl}
use Rattle.every_schedule.specs.Private.Standing.{here}
use Rattle.every_schedule.proofs.Leaps.{has_next}
use Rattle.every_schedule.proofs.leaping.note.Goals as goal

pub returns-in_ok-add : goal.returns-in_ok-add
returns-in_ok-add c =
    let p = here c.args.current.now in
    inl (c.in_ok-add.ensures, has_next p.world c.args.by (sym c.has_move.ensures ∙ c.if-has_move.true))
