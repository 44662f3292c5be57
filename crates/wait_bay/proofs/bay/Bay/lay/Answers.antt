use Rattle.std.proofs.Common.{◌≡◌, ◌∙◌, ap, sym, subst, ℕ, Option, Some, List, ◌∷◌, []}
use Rattle.atomic_table.specs.Table.{Me, rest}
use Rattle.fiber_poll.specs.Tasks.{TaskView}
use Rattle.wait_bay.{specs.{declared.rule.Knowledge.Knowledge, Names.{Named, MayLie}, Bays.{BayView, SeatView}}, proofs.Keeping.{one_value, still_out}}
use Rattle.wait_bay.proofs.bay.Bay.lay.Goals.{in-None, in-Some}
use Rattle.wait_bay.proofs.bay.Bay.lay.Goals as goal

pub exchange-back-requires : goal.exchange-back-requires
exchange-back-requires c =
    let went = c.exchange-before.ensures.3 in (
      c.exchange-before.ensures.0 ∙
          (c.take_out.ensures.table ∙
          (ap (λ (b : SeatView). b.table) c.seat.view_is ∙ (c.requires.here.table ∙ sym (ap (λ (b : BayView). b.table) c.self.view_is)))),
      (
        Some c.args.task,
        still_out c.args.f (Some c.args.task) _ _ (ap (λ (m : Me (Option TaskView) Knowledge). m.1) went),
      ),
    )

pub give_back-requires-clause-out : goal.give_back-requires-clause-out
give_back-requires-clause-out c =
    let out = c.take_out.ensures.out c.if-not-take_out.false in
    let now = c.exchange-before.new.seat in
    let left : rest c.take_out.new.seat.me.1 ≡ [] = ap rest out.1 in
    let named : now.me.0.named ≡ c.args.self.now.named = ap (λ (m : Me (Option TaskView) Knowledge). m.0.named) c.exchange-before.ensures.3 ∙
    (ap (λ (v : Knowledge). v.named) c.take_out.ensures.known ∙ (ap (λ (b : SeatView). b.named) c.seat.view_is ∙ c.requires.here.named)) in
    elim c.match-before.branch [
      | in-None w ↦ (
        Some c.args.task,
        ap (λ (i : _). i.seat.me.1) w.seat-inside-is ∙
            (ap (λ (m : Me (Option TaskView) Knowledge). m.1) c.exchange-before.ensures.3 ∙
            ap (λ (l : List (ℕ × Option TaskView)). (c.args.f, Some c.args.task) ∷ l) left),
        subst (λ (n : Option Named). MayLie n c.args.f (Some c.args.task)) (sym (ap (λ (i : _). i.seat.me.0.named) w.seat-inside-is ∙ named)) c.requires.own,
      )
      | in-Some w ↦
          let back = w.exchange-back in
          let other = w.in-Some in
          let held : out.0 ≡ Some other.other = one_value c.args.f out.0 c.exchange-before.result _ _ out.1 c.exchange-before.ensures.2 ∙ other.is in
          let was_left : rest now.me.1 ≡ [] = ap (λ (m : Me (Option TaskView) Knowledge). rest m.1) c.exchange-before.ensures.3 ∙ left in (
            Some other.other,
            ap (λ (i : _). i.seat.me.1) w.seat-inside-is ∙
                (ap (λ (m : Me (Option TaskView) Knowledge). m.1) back.ensures.3 ∙
                ap (λ (l : List (ℕ × Option TaskView)). (c.args.f, Some other.other) ∷ l) was_left),
            subst (λ (n : Option Named). MayLie n c.args.f (Some other.other))
                (sym (ap (λ (i : _). i.seat.me.0.named) w.seat-inside-is ∙
                (ap (λ (m : Me (Option TaskView) Knowledge). m.0.named) back.ensures.3 ∙
                ap (λ (m : Me (Option TaskView) Knowledge). m.0.named) c.exchange-before.ensures.3)))
                (subst (λ (y : Option TaskView). MayLie c.take_out.new.seat.me.0.named c.args.f y) held
                (subst (λ (v : Knowledge). MayLie v.named c.args.f out.0) (sym c.take_out.ensures.known) out.2)),
          )
    ]
