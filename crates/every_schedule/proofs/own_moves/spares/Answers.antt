use Rattle.std.proofs.Common.{◌≢◌, sym, ◌∙◌}
use Rattle.every_schedule.specs.Reduced.{keeps}
use Rattle.every_schedule.proofs.Alone.{itself, keeps_told}
use Rattle.every_schedule.proofs.Standing.{same_none}
use Rattle.every_schedule.proofs.own_moves.spares.Goals as goal

pub returns-then-place-from-clause-same : goal.returns-then-place-from-clause-same
returns-then-place-from-clause-same c = same_none c.args.current.now

pub returns-then-place-from-clause-spares : goal.returns-then-place-from-clause-spares
returns-then-place-from-clause-spares c = λ g at.
    sym (itself c.args.place c.args.by (keeps c.args.what c.args.number g) (c.if-place-from.true ∙ c.from.ensures))

pub returns-clause-spares : goal.returns-clause-spares
returns-clause-spares c = λ g at.
    let apart : c.args.place ≢ c.args.by = λ same. c.if-place-from.false (same ∙ sym c.from.ensures) in
    sym (keeps_told c.args.what c.args.number c.args.by c.args.place g apart c.uses.result (c.uses.ensures.uses g at))
