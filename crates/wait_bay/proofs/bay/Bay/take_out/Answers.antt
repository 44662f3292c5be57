use Rattle.std.proofs.Common.{◌∙◌, ◌==◌, ap, sym, subst, ℕ, Option, List, arith}
use mathlib.Core.Option.{none}
use prog.Atomic.{either}
use Rattle.atomic_table.specs.Table.{Allows, step}
use Rattle.fiber_poll.specs.Tasks.{TaskView}
use Rattle.wait_bay.{specs.{Bays.BayView, Rule.{KeepsTasks, GoesOut}}, proofs.Keeping.goes}
use Rattle.wait_bay.proofs.bay.Bay.take_out.Goals as goal

pub compare_exchange-found-requires : goal.compare_exchange-found-requires
compare_exchange-found-requires c =
    let shared = c.self.inside.table.shared in
    let seat = c.args.seat.now in
    let fibers = ap (λ (b : BayView). b.fibers) c.self.view_is in
    let P : List (ℕ × Option TaskView) → Type 0 =
    λ l. Allows (KeepsTasks shared.key) shared.table_id.slots seat.id (seat.me.0, l) c.args.f (λ n. either (n == 0) 1 n)
    (GoesOut (step shared.table_id.slots c.args.f 0 1 none) (seat.me.0, l)) in (
      c.requires.here ∙ sym (ap (λ (b : BayView). b.table) c.self.view_is),
      omega (arith, c.self.invariant.2, c.requires.within, fibers),
      subst P (sym c.requires.free)
          (goes shared.key shared.table_id.slots seat.id seat.me.0 c.args.f (omega (arith, c.self.invariant.3, c.requires.within, fibers))),
    )
