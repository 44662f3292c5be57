use Rattle.cell_registry.proofs.Prelude.{◌<◌, sym, ◌∙◌, ap, arith, subst, refl, Limits, Called, RegistryView, PassView, OnlySees, Calls, pass_of, stage_of}
use Rattle.cell_registry.proofs.Prelude.{Reply, Call}
use Rattle.effect_term.specs.declared.reply.CancelReply.{CancelReply}
use Rattle.cell_registry.proofs.CellTurns.{cancels}
use Rattle.cell_registry.proofs.Tokens.{of_registry, seat_has, called_by, call-prefix, pass_of-step, seated_still}
use Rattle.cell_registry.proofs.registry.Registry.cancel.Goals as goal

pub fetch_or-found-requires : goal.fetch_or-found-requires
fetch_or-found-requires c =
    let r = c.self.invariant in
    let p = c.pass.invariant in
    let of = of_registry _ _ _ _ c.self.view_is c.pass.view_is c.requires.own in
    let within : c.args.fiber < c.self.inside.table.shared.key.fibers = rw (r.key_is ∙ ap (λ (s : RegistryView). s.limits) c.self.view_is) c.requires.within in
    let fibers = ap (λ (k : Limits). k.fibers) r.key_is in
    let words = r.words in (
      ap (λ (s : RegistryView). s.table) of,
      omega arith,
      cancels _ _ _ c.cell_place.result c.args.fiber _ p.0 (seat_has _ _ refl p.1) within c.cell_place.ensures,
    )

pub invariant_of-pass : goal.invariant_of-pass
invariant_of-pass c =
    let told = c.fetch_or-found.ensures.2 in
    let t = told.1 c.args.fiber c.cell_place.ensures in
    (told.0, seated_still _ _ _ _ _ _ _ _ _ t.3.1 (call-prefix _ _ _ _ _ _ _ t.3.0) t.3.0.legal c.pass.invariant.1)

pub returns-clause-same : goal.returns-clause-same
returns-clause-same c =
    let t = c.fetch_or-found.ensures.2.1 c.args.fiber c.cell_place.ensures in
    let old = c.pass.inside in
    let new = c.fetch_or-found.new.seat in
    let P : PassView → Type 0 = λ h. OnlySees h (pass_of new.table_id new.me.0 old.number (stage_of old.phase old.value) old.depth old.count old.saw) in
    subst P c.pass.view_is (pass_of-step _ _ old.seat.me.0 new.me.0 _ _ _ _ _ c.fetch_or-found.ensures.0 t.3.1.limits t.3.1.fibers)

pub returns-clause-call : goal.returns-clause-call
returns-clause-call c =
    let t = c.fetch_or-found.ensures.2.1 c.args.fiber c.cell_place.ensures in
    let answer = c.cancel_answer.ensures t.0 t.1 t.2 in
    let old = c.pass.inside in
    let new = c.fetch_or-found.new.seat in
    let P : PassView → Type 0 = λ h. Calls h (Call.Cancel c.args.fiber) (Reply.Cancel c.cancel_answer.result)
    (pass_of new.table_id new.me.0 old.number (stage_of old.phase old.value) old.depth old.count old.saw) in
    subst P c.pass.view_is
    (called_by old.seat.me.0 new.me.0 _ _ _ c.pass.invariant.1.number_is
    (subst (λ (r : CancelReply). Called old.seat.me.0 (Call.Cancel c.args.fiber) (Reply.Cancel r) new.me.0) (sym answer) t.3.0))

pub returns-clause-lawful : goal.returns-clause-lawful
returns-clause-lawful c = (invariant_of-pass c).1.pass
