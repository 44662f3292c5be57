use Rattle.std.proofs.Common.{◌∙◌, ap, sym, subst, ℕ, Option, List, arith}
use mathlib.Core.Option.{none}
use Rattle.atomic_table.specs.Table.{Allows, step}
use Rattle.fiber_poll.specs.Tasks.{TaskView}
use Rattle.wait_bay.{specs.{Bays.BayView, Rule.{KeepsTasks, ComesHome}}, proofs.Keeping.returns_home}
use Rattle.wait_bay.proofs.bay.Bay.give_back.Goals as goal

pub store-requires : goal.store-requires
store-requires c =
    let shared = c.self.inside.table.shared in
    let seat = c.args.seat.now in
    let fibers = ap (λ (b : BayView). b.fibers) c.self.view_is in
    let out = c.requires.out in
    let P : List (ℕ × Option TaskView) → Type 0 =
    λ l. Allows (KeepsTasks shared.key) shared.table_id.slots seat.id (seat.me.0, l) c.args.f (λ _. 0)
    (λ _. ComesHome (step shared.table_id.slots c.args.f 0 0 none) (seat.me.0, l) 0) in (
      c.requires.here ∙ sym (ap (λ (b : BayView). b.table) c.self.view_is),
      omega (arith, c.self.invariant.2, c.requires.within, fibers),
      subst P (sym out.1) (returns_home shared.key shared.table_id.slots seat.id seat.me.0 c.args.f out.0
          (omega (arith, c.self.invariant.3, c.requires.within, fibers)) out.2),
    )
