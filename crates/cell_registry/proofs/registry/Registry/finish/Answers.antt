use Rattle.cell_registry.proofs.Prelude.{ℕ, ◌+◌, arith, sym, ◌∙◌, ap, subst, refl, rules, Some, Knowledge, Stage, Ended, IsOpen, MayFinish, phase_at}
use Rattle.cell_registry.proofs.Prelude.{value_place, Called, RegistryView, PassView, Changes, pass_of, stage_of, Reply, Call}
use Rattle.cell_registry.proofs.Calls.{outcome-fits}
use Rattle.cell_registry.proofs.OwnTurns.{finish-open, stores_as, finishes_as}
use Rattle.cell_registry.proofs.Tokens.{of_registry, own_place, seat_has, seat_cell, called_by, call-prefix, pass_of-step, but_stored, seated_stored}
use Rattle.cell_registry.proofs.Tokens.{stored_registry, seated_changed, count_below, seen_count_below}
use Rattle.cell_registry.proofs.registry.Registry.finish.Goals as goal

pub store-requires : goal.store-requires
store-requires c =
    let p = c.pass.invariant in
    let r = c.self.invariant in
    let of = of_registry _ _ _ _ c.self.view_is c.pass.view_is c.requires.own in
    let cell = seat_cell _ _ _ _ _ _ _ p.1 in
    let may = subst (λ (x : Stage × ℕ × ℕ). MayFinish x.0 x.1 c.args.outcome) (sym cell)
    (subst (λ (q : PassView). MayFinish q.stage q.depth c.args.outcome) (sym c.pass.view_is) c.requires.may) in
    let within = p.1.pass.within in
    let fibers = ap (λ (s : RegistryView). s.limits.fibers) of in
    let words = r.words in
    let place = c.value_place-place.ensures in (
      ap (λ (s : RegistryView). s.table) of,
      omega arith,
      stores_as _ _ _ c.value_place-place.result _ _ p.0 (seat_has _ _ refl p.1) (place ∙ (λ j. value_place (sym r.key_is j) (p.1.number_is j)))
          (finish-open _ _ c.args.outcome may),
    )

pub fetch_add-pass-inside-requires : goal.fetch_add-pass-inside-requires
fetch_add-pass-inside-requires c =
    let s = c.store.ensures in
    let p = seated_stored _ _ _ c.store.new.seat.table_id _ _ _ _ _ _ s.2.1 c.pass.invariant.1 in
    let of = stored_registry c.pass.inside.seat.me.0 _ _ _ c.pass.inside.number _ (stage_of c.pass.inside.phase c.pass.inside.value)
    c.pass.inside.depth c.pass.inside.count c.pass.inside.saw _ s.2.1 s.0 (of_registry _ _ _ _ c.self.view_is c.pass.view_is c.requires.own) in
    let cell = seat_cell _ _ _ _ _ _ _ p in
    let below = seen_count_below _ _ _ _ _ _ _ _ _ p of c.self.invariant c.in_ok-refuse_if_spent.ensures.room in
    let may = subst (λ (x : Stage × ℕ × ℕ). MayFinish x.0 x.1 c.args.outcome) (sym cell)
    (subst (λ (q : PassView). MayFinish q.stage q.depth c.args.outcome) (sym c.pass.view_is) c.requires.may) in
    let stored = ap (λ (x : Knowledge). x.stored) s.2.1 ∙ ap Some c.outcome_word-value.ensures in (
      ap (λ (s : RegistryView). s.table) of,
      own_place _ _ _ _ _ p of c.self.invariant c.cell_place.ensures,
      finishes_as _ _ _ c.cell_place.result _ _ c.is_finalizing.result c.args.outcome s.2.0 (seat_has _ _ refl p) (c.cell_place.ensures ∙
          ap (λ n. n + 3) p.number_is) below may (ap (λ o. phase_at o.0) cell ∙ ap phase_at (sym c.stage.ensures) ∙ c.is_finalizing.ensures.phase)
          c.finish_amount-amount.ensures.law c.finish_amount-amount.ensures.sum stored,
    )

pub overflow_add-pass : goal.overflow_add-pass
overflow_add-pass c =
    let of = of_registry _ _ _ _ c.self.view_is c.pass.view_is c.requires.own in
    let below = count_below _ _ _ c.pass.invariant.1 of c.in_ok-refuse_if_spent.ensures.room in
    let most = c.pass.invariant.1.pass.limits.count in
    search rules

pub invariant_of-pass : goal.invariant_of-pass
invariant_of-pass c =
    let s = c.store.ensures in
    let p = seated_stored _ _ _ c.store.new.seat.table_id _ _ _ _ _ _ s.2.1 c.pass.invariant.1 in
    let cell = seat_cell _ _ _ _ _ _ _ p in
    let phase = ap (λ o. phase_at o.0) cell ∙ ap phase_at (sym c.stage.ensures) ∙ c.is_finalizing.ensures.phase in
    let may = subst (λ (q : PassView). MayFinish q.stage q.depth c.args.outcome) (sym c.pass.view_is) c.requires.may in
    let stored = ap (λ (x : Knowledge). x.stored) s.2.1 ∙ ap Some c.outcome_word-value.ensures in
    let told = c.fetch_add-pass-inside.ensures.2.1 c.is_finalizing.result c.args.outcome phase (outcome-fits _ _ _ may) stored
    c.finish_amount-amount.ensures.sum in (
      c.fetch_add-pass-inside.ensures.2.0,
      seated_changed c.store.new.seat.me.0.stored (but_stored c.store.new.seat.me.0) c.fetch_add-pass-inside.new.seat.me.0 _ _ _ _ _ _ _ _ _ _ _
          (λ j. (sym c.ended-phase.ensures j, (cell j).1, (cell j).2 + 1)) told.1 (λ opened. absurd (subst IsOpen c.ended-phase.ensures opened))
          (call-prefix _ _ _ _ _ _ _ told.0) told.0.legal p,
    )

pub returns-clause-ended : goal.returns-clause-ended
returns-clause-ended c =
    let s = c.store.ensures in
    let p = seated_stored _ _ _ c.store.new.seat.table_id _ _ _ _ _ _ s.2.1 c.pass.invariant.1 in
    let old = c.pass.inside in
    let new = c.fetch_add-pass-inside.new.seat in
    let of = of_registry _ _ _ _ c.self.view_is c.pass.view_is c.requires.own in
    let phase = ap (λ o. phase_at o.0) (seat_cell _ _ _ _ _ _ _ p) ∙ ap phase_at (sym c.stage.ensures) ∙ c.is_finalizing.ensures.phase in
    let may = subst (λ (q : PassView). MayFinish q.stage q.depth c.args.outcome) (sym c.pass.view_is) c.requires.may in
    let stored = ap (λ (x : Knowledge). x.stored) s.2.1 ∙ ap Some c.outcome_word-value.ensures in
    let told = c.fetch_add-pass-inside.ensures.2.1 c.is_finalizing.result c.args.outcome phase (outcome-fits _ _ _ may) stored
    c.finish_amount-amount.ensures.sum in
    let made = subst (λ (x : Knowledge). Called x (Call.Finish c.args.outcome) Reply.Done new.me.0) s.2.1 told.0 in
    let P : Stage → PassView → Type 0 = λ g h. Changes h (Call.Finish c.args.outcome) (Ended c.args.outcome) h.depth
    (pass_of new.table_id new.me.0 old.number g old.depth (old.count + 1) old.saw) in
    subst (λ (g : Stage). P g c.args.pass.now) (sym c.ended-phase.ensures) (subst (P (Ended c.args.outcome)) c.pass.view_is record {
      room = count_below _ _ _ c.pass.invariant.1 of c.in_ok-refuse_if_spent.ensures.room;
      same = pass_of-step _ _ old.seat.me.0 new.me.0 _ (Ended c.args.outcome) old.depth (old.count + 1) _ (c.fetch_add-pass-inside.ensures.0 ∙ s.0)
          (told.1.limits ∙ ap (λ (x : Knowledge). x.limits) s.2.1) (told.1.fibers ∙ ap (λ (x : Knowledge). x.fibers) s.2.1);
      call = called_by old.seat.me.0 new.me.0 _ _ _ c.pass.invariant.1.number_is made;
    })

pub returns-clause-lawful : goal.returns-clause-lawful
returns-clause-lawful c = (invariant_of-pass c).1.pass
