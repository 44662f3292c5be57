use Rattle.cell_registry.proofs.Prelude.{◌+◌, ◌<◌, sym, ◌∙◌, ap, arith, subst, refl, rules, IsOpen, RegistryView, PassView, Changes, pass_of, stage_of, Call}
use Rattle.cell_registry.proofs.OwnTurns.{masks_as}
use Rattle.cell_registry.proofs.Tokens.{of_registry, own_place, seat_has, seat_cell, called_by, call-prefix, pass_of-step, seated_changed, count_below}
use Rattle.cell_registry.proofs.Tokens.{seen_count_below}
use Rattle.cell_registry.proofs.registry.Registry.mask.Goals as goal

pub fetch_add-requires : goal.fetch_add-requires
fetch_add-requires c =
    let p = c.pass.invariant in
    let of = of_registry _ _ _ _ c.self.view_is c.pass.view_is c.requires.own in
    let cell = seat_cell _ _ _ _ _ _ _ p.1 in
    let below = seen_count_below _ _ _ _ _ _ _ _ _ p.1 of c.self.invariant c.in_ok-refuse_if_spent.ensures.room in
    let opened = subst IsOpen (sym (ap (λ o. o.0) cell)) (subst (λ (q : PassView). IsOpen q.stage) (sym c.pass.view_is) c.requires.open) in
    let depth = subst (λ (q : PassView). q.depth < 255) (sym c.pass.view_is) c.requires.depth in
    let d = ap (λ o. o.1) cell in (
      ap (λ (s : RegistryView). s.table) of,
      own_place _ _ _ _ _ p.1 of c.self.invariant c.cell_place.ensures,
      masks_as _ _ _ c.cell_place.result _ _ p.0 (seat_has _ _ refl p.1) (c.cell_place.ensures ∙ ap (λ n. n + 3) p.1.number_is) below opened
          (omega arith) c.mask_amount.ensures.law,
    )

pub overflow_add-pass-2 : goal.overflow_add-pass-2
overflow_add-pass-2 c =
    let of = of_registry _ _ _ _ c.self.view_is c.pass.view_is c.requires.own in
    let below = count_below _ _ _ c.pass.invariant.1 of c.in_ok-refuse_if_spent.ensures.room in
    let most = c.pass.invariant.1.pass.limits.count in
    search rules

pub invariant_of-pass : goal.invariant_of-pass
invariant_of-pass c =
    let p = c.pass.invariant in
    let cell = seat_cell _ _ _ _ _ _ _ p.1 in
    let told = c.fetch_add.ensures.2.1 in (
      c.fetch_add.ensures.2.0,
      seated_changed c.pass.inside.seat.me.0.stored c.pass.inside.seat.me.0 c.fetch_add.new.seat.me.0 _ _ _ _ _ _ _ _ _ _ _
          (λ j. ((cell j).0, (cell j).1 + 1, (cell j).2 + 1)) told.1 (λ opened. told.1.stored ∙ p.1.unstored opened) (call-prefix _ _ _ _ _ _ _ told.0)
          told.0.legal p.1,
    )

pub returns-clause-masked : goal.returns-clause-masked
returns-clause-masked c =
    let p = c.pass.invariant in
    let old = c.pass.inside in
    let new = c.fetch_add.new.seat in
    let of = of_registry _ _ _ _ c.self.view_is c.pass.view_is c.requires.own in
    let told = c.fetch_add.ensures.2.1 in
    let P : PassView → Type 0 = λ h. Changes h Call.Mask h.stage (h.depth + 1)
    (pass_of new.table_id new.me.0 old.number (stage_of old.phase old.value) (old.depth + 1) (old.count + 1) old.saw) in
    subst P c.pass.view_is record {
      room = count_below _ _ _ p.1 of c.in_ok-refuse_if_spent.ensures.room;
      same = pass_of-step _ _ old.seat.me.0 new.me.0 _ (stage_of old.phase old.value) (old.depth + 1) (old.count + 1) _ c.fetch_add.ensures.0
          told.1.limits told.1.fibers;
      call = called_by old.seat.me.0 new.me.0 _ _ _ p.1.number_is told.0;
    }

pub returns-clause-lawful : goal.returns-clause-lawful
returns-clause-lawful c = (invariant_of-pass c).1.pass
