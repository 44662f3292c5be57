use Rattle.cell_registry.proofs.Prelude.{◌≡◌, ℕ, ◌+◌, sym, ◌∙◌, ap, subst, refl, rules, true, Running, Finalizing, IsOpen, seen_cell, RegistryView, PassView}
use Rattle.cell_registry.proofs.Prelude.{Changes, pass_of, Call}
use Rattle.cell_registry.proofs.OwnTurns.{cuts_as}
use Rattle.cell_registry.proofs.Tokens.{of_registry, own_place, seat_has, seat_cell, called_by, call-prefix, pass_of-step, seated_changed, count_below}
use Rattle.cell_registry.proofs.Tokens.{seen_count_below}
use Rattle.cell_registry.proofs.Requests.{legal-cuts}
use Rattle.cell_registry.proofs.registry.Registry.cut.Goals as goal

pub fetch_add-requires : goal.fetch_add-requires
fetch_add-requires c =
    let p = c.pass.invariant in
    let of = of_registry _ _ _ _ c.self.view_is c.pass.view_is c.requires.own in
    let cell = seat_cell _ _ _ _ _ _ _ p.1 in
    let below = seen_count_below _ _ _ _ _ _ _ _ _ p.1 of c.self.invariant c.in_ok-refuse_if_spent.ensures.room in
    let running = ap (λ o. o.0) cell ∙ subst (λ (q : PassView). q.stage ≡ Running) (sym c.pass.view_is) c.requires.running in
    let depth = ap (λ o. o.1) cell ∙ subst (λ (q : PassView). q.depth ≡ 0) (sym c.pass.view_is) c.requires.unmasked in
    let saw = subst (λ (q : PassView). q.saw ≡ true) (sym c.pass.view_is) c.requires.requested in
    let request = ap (λ (f : ℕ). (seen_cell c.pass.inside.seat.me.0 f).request) (sym p.1.number_is) ∙ p.1.pass.request saw in (
      ap (λ (s : RegistryView). s.table) of,
      own_place _ _ _ _ _ p.1 of c.self.invariant c.cell_place.ensures,
      cuts_as _ _ _ c.cell_place.result _ _ p.0 (seat_has _ _ refl p.1) (c.cell_place.ensures ∙ ap (λ n. n + 3) p.1.number_is) below running depth
          request c.cut_amount.ensures.law,
    )

pub overflow_add-pass : goal.overflow_add-pass
overflow_add-pass c =
    let of = of_registry _ _ _ _ c.self.view_is c.pass.view_is c.requires.own in
    let below = count_below _ _ _ c.pass.invariant.1 of c.in_ok-refuse_if_spent.ensures.room in
    let most = c.pass.invariant.1.pass.limits.count in
    search rules

pub invariant_of-pass : goal.invariant_of-pass
invariant_of-pass c =
    let p = c.pass.invariant in
    let cell = seat_cell _ _ _ _ _ _ _ p.1 in
    let depth = ap (λ o. o.1) cell ∙ subst (λ (q : PassView). q.depth ≡ 0) (sym c.pass.view_is) c.requires.unmasked in
    let running = subst (λ (q : PassView). q.stage ≡ Running) (sym c.pass.view_is) c.requires.running in
    let told = c.fetch_add.ensures.2.1 in (
      c.fetch_add.ensures.2.0,
      seated_changed c.pass.inside.seat.me.0.stored c.pass.inside.seat.me.0 c.fetch_add.new.seat.me.0 _ _ _ _ _ _ _ _ _ _ _
          (λ j. (Finalizing, depth j + 1, (cell j).2 + 1)) told.1 (λ _. told.1.stored ∙ p.1.unstored (subst IsOpen (sym running) tt))
          (call-prefix _ _ _ _ _ _ _ told.0) told.0.legal p.1,
    )

pub returns-clause-cut : goal.returns-clause-cut
returns-clause-cut c =
    let p = c.pass.invariant in
    let old = c.pass.inside in
    let new = c.fetch_add.new.seat in
    let of = of_registry _ _ _ _ c.self.view_is c.pass.view_is c.requires.own in
    let told = c.fetch_add.ensures.2.1 in
    let P : PassView → Type 0 = λ h. Changes h Call.Cut Finalizing 1 (pass_of new.table_id new.me.0 old.number Finalizing 1 (old.count + 1) old.saw) in
    subst P c.pass.view_is record {
      room = count_below _ _ _ p.1 of c.in_ok-refuse_if_spent.ensures.room;
      same = pass_of-step _ _ old.seat.me.0 new.me.0 _ Finalizing 1 (old.count + 1) _ c.fetch_add.ensures.0 told.1.limits told.1.fibers;
      call = called_by old.seat.me.0 new.me.0 _ _ _ p.1.number_is told.0;
    }

pub returns-clause-after_cancel : goal.returns-clause-after_cancel
returns-clause-after_cancel c = legal-cuts _ c.fetch_add.new.seat.me.0.seen c.fetch_add.ensures.2.1.0.legal

pub returns-clause-lawful : goal.returns-clause-lawful
returns-clause-lawful c = (invariant_of-pass c).1.pass
