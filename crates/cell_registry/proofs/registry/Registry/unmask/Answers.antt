use Rattle.cell_registry.proofs.Prelude.{ℕ, ◌+◌, ◌-◌, sym, ◌∙◌, ap, subst, refl, rules, Stage, MayUnmask, RegistryView, PassView, Changes, pass_of, stage_of}
use Rattle.cell_registry.proofs.Prelude.{Call}
use Rattle.cell_registry.proofs.OwnTurns.{unmasks_as}
use Rattle.cell_registry.proofs.Tokens.{of_registry, own_place, seat_has, seat_cell, called_by, call-prefix, pass_of-step, seated_changed, count_below}
use Rattle.cell_registry.proofs.Tokens.{seen_count_below}
use Rattle.cell_registry.proofs.registry.Registry.unmask.Goals as goal

pub fetch_sub-requires : goal.fetch_sub-requires
fetch_sub-requires c =
    let p = c.pass.invariant in
    let of = of_registry _ _ _ _ c.self.view_is c.pass.view_is c.requires.own in
    let cell = seat_cell _ _ _ _ _ _ _ p.1 in
    let below = seen_count_below _ _ _ _ _ _ _ _ _ p.1 of c.self.invariant c.in_ok-refuse_if_spent.ensures.room in
    let may = subst (λ (x : Stage × ℕ × ℕ). MayUnmask x.0 x.1) (sym cell)
    (subst (λ (q : PassView). MayUnmask q.stage q.depth) (sym c.pass.view_is) c.requires.masked) in (
      ap (λ (s : RegistryView). s.table) of,
      own_place _ _ _ _ _ p.1 of c.self.invariant c.cell_place.ensures,
      unmasks_as _ _ _ c.cell_place.result _ _ p.0 (seat_has _ _ refl p.1) (c.cell_place.ensures ∙ ap (λ n. n + 3) p.1.number_is) below may
          c.unmask_amount.ensures.law,
    )

pub overflow_add-pass : goal.overflow_add-pass
overflow_add-pass c =
    let of = of_registry _ _ _ _ c.self.view_is c.pass.view_is c.requires.own in
    let below = count_below _ _ _ c.pass.invariant.1 of c.in_ok-refuse_if_spent.ensures.room in
    let most = c.pass.invariant.1.pass.limits.count in
    search rules

pub invariant_of-pass : goal.invariant_of-pass
invariant_of-pass c =
    let p = c.pass.invariant in
    let cell = seat_cell _ _ _ _ _ _ _ p.1 in
    let told = c.fetch_sub.ensures.2.1 in (
      c.fetch_sub.ensures.2.0,
      seated_changed c.pass.inside.seat.me.0.stored c.pass.inside.seat.me.0 c.fetch_sub.new.seat.me.0 _ _ _ _ _ _ _ _ _ _ _
          (λ j. ((cell j).0, (cell j).1 - 1, (cell j).2 + 1)) told.1 (λ opened. told.1.stored ∙ p.1.unstored opened) (call-prefix _ _ _ _ _ _ _ told.0)
          told.0.legal p.1,
    )

pub returns-clause-unmasked : goal.returns-clause-unmasked
returns-clause-unmasked c =
    let p = c.pass.invariant in
    let old = c.pass.inside in
    let new = c.fetch_sub.new.seat in
    let of = of_registry _ _ _ _ c.self.view_is c.pass.view_is c.requires.own in
    let told = c.fetch_sub.ensures.2.1 in
    let P : PassView → Type 0 = λ h. Changes h Call.Unmask h.stage (h.depth - 1)
    (pass_of new.table_id new.me.0 old.number (stage_of old.phase old.value) (old.depth - 1) (old.count + 1) old.saw) in
    subst P c.pass.view_is record {
      room = count_below _ _ _ p.1 of c.in_ok-refuse_if_spent.ensures.room;
      same = pass_of-step _ _ old.seat.me.0 new.me.0 _ (stage_of old.phase old.value) (old.depth - 1) (old.count + 1) _ c.fetch_sub.ensures.0
          told.1.limits told.1.fibers;
      call = called_by old.seat.me.0 new.me.0 _ _ _ p.1.number_is told.0;
    }

pub returns-clause-lawful : goal.returns-clause-lawful
returns-clause-lawful c = (invariant_of-pass c).1.pass
