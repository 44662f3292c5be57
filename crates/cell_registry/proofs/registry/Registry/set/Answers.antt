use Rattle.cell_registry.proofs.Prelude.{◌<◌, sym, ap, subst, refl, from_bits, Limits, RegistryView, PassView, OnlySees, pass_of, stage_of}
use Rattle.cell_registry.proofs.ValueTurns.{sets}
use Rattle.cell_registry.proofs.Tokens.{of_registry, seat_has, ref_here, ref_word, call-prefix, pass_of-step, seated_still}
use Rattle.cell_registry.proofs.registry.Registry.set.Goals as goal

pub store-requires : goal.store-requires
store-requires c =
    let r = c.self.invariant in
    let p = c.pass.invariant in
    let of = of_registry _ _ _ _ c.self.view_is c.pass.view_is c.requires.own in
    let place = c.ref_place-place.ensures in
    let within = subst (λ (x : RegistryView). c.args.number < x.limits.refs) (sym c.self.view_is) c.requires.within in (
      ap (λ (s : RegistryView). s.table) of,
      ref_word _ _ _ c.args.number r within place,
      sets _ _ _ c.ref_place-place.result _ _ c.args.number c.args.value p.0 (seat_has _ _ refl p.1)
          (subst (λ (k : Limits). c.args.number < k.refs) (sym r.key_is) within) (ref_here _ _ _ c.args.number (sym r.key_is) place)
          (from_bits _ _ c.value_word-bits.ensures.bits c.value_word-bits.ensures.inverse, c.value_word-bits.ensures.bits),
    )

pub invariant_of-pass : goal.invariant_of-pass
invariant_of-pass c =
    let p = c.pass.invariant in
    let of = of_registry _ _ _ _ c.self.view_is c.pass.view_is c.requires.own in
    let place = ref_here _ _ _ c.args.number (sym (ap (λ (s : RegistryView). s.limits) of)) c.ref_place-place.ensures in
    let t = c.store.ensures.2.1 c.args.number place c.args.value (
      from_bits _ _ c.value_word-bits.ensures.bits c.value_word-bits.ensures.inverse,
      c.value_word-bits.ensures.bits,
    ) in
    (c.store.ensures.2.0, seated_still _ _ _ _ _ _ _ _ _ t.1 (call-prefix _ _ _ _ _ _ _ t.0) t.0.legal p.1)

pub returns-clause-same : goal.returns-clause-same
returns-clause-same c =
    let of = of_registry _ _ _ _ c.self.view_is c.pass.view_is c.requires.own in
    let place = ref_here _ _ _ c.args.number (sym (ap (λ (s : RegistryView). s.limits) of)) c.ref_place-place.ensures in
    let t = c.store.ensures.2.1 c.args.number place c.args.value (
      from_bits _ _ c.value_word-bits.ensures.bits c.value_word-bits.ensures.inverse,
      c.value_word-bits.ensures.bits,
    ) in
    let old = c.pass.inside in
    let new = c.store.new.seat in
    let P : PassView → Type 0 = λ h. OnlySees h (pass_of new.table_id new.me.0 old.number (stage_of old.phase old.value) old.depth old.count old.saw) in
    subst P c.pass.view_is (pass_of-step _ _ old.seat.me.0 new.me.0 _ _ _ _ _ c.store.ensures.0 t.1.limits t.1.fibers)

pub returns-clause-lawful : goal.returns-clause-lawful
returns-clause-lawful c = (invariant_of-pass c).1.pass
