use Rattle.cell_registry.proofs.Prelude.{◌≡◌, ◌+◌, Bool, sym, ◌∙◌, ap, subst, refl, IsOpen, Called, WasCancelled, RegistryView, PassView, Calls, pass_of}
use Rattle.cell_registry.proofs.Prelude.{stage_of, Reply, Call}
use Rattle.cell_registry.proofs.CellTurns.{sees}
use Rattle.cell_registry.proofs.Tokens.{of_registry, own_place, seat_has, seat_cell, called_by, call-prefix, pass_of-step, seated_looked}
use Rattle.cell_registry.proofs.Requests.{request-cancelled}
use Rattle.cell_registry.proofs.registry.Registry.look.Goals as goal

pub load-found-requires : goal.load-found-requires
load-found-requires c =
    let p = c.pass.invariant in
    let of = of_registry _ _ _ _ c.self.view_is c.pass.view_is c.requires.own in
    let cell = seat_cell _ _ _ _ _ _ _ p.1 in
    let opened = subst (λ (q : PassView). IsOpen q.stage) (sym c.pass.view_is) c.requires.open in
    let depth = subst (λ (q : PassView). q.depth ≡ 0) (sym c.pass.view_is) c.requires.unmasked in
    let place = c.cell_place.ensures in (
      ap (λ (s : RegistryView). s.table) of,
      own_place _ _ _ _ _ p.1 of c.self.invariant c.cell_place.ensures,
      sees _ _ _ c.cell_place.result _ p.0 (seat_has _ _ refl p.1) (place ∙ ap (λ n. n + 3) p.1.number_is)
          (subst IsOpen (sym (ap (λ o. o.0) cell)) opened) (ap (λ o. o.1) cell ∙ depth),
    )

pub invariant_of-pass : goal.invariant_of-pass
invariant_of-pass c =
    let told = c.load-found.ensures.2 in
    let t = told.1 in
    let answer = c.look_answer-requested.ensures t.0 t.1 t.2 in (
      told.0,
      seated_looked _ _ _ _ _ _ _ _ c.pass.inside.saw c.look_answer-requested.result t.3.1 (call-prefix _ _ _ _ _ _ _ t.3.0) t.3.0.legal
          (λ e. t.3.2 ∙ sym answer ∙ e) c.pass.invariant.1,
    )

pub returns-clause-same : goal.returns-clause-same
returns-clause-same c =
    let t = c.load-found.ensures.2.1 in
    let old = c.pass.inside in
    let new = c.load-found.new.seat in
    let P : PassView → Type 0 =
    λ h. pass_of new.table_id new.me.0 old.number (stage_of old.phase old.value) old.depth old.count c.look_answer-requested.result ≡ record h {
      saw = c.look_answer-requested.result;
      seen = new.me.0.seen;
    } in
    subst P c.pass.view_is (pass_of-step _ _ old.seat.me.0 new.me.0 _ _ _ _ _ c.load-found.ensures.0 t.3.1.limits t.3.1.fibers)

pub returns-clause-call : goal.returns-clause-call
returns-clause-call c =
    let t = c.load-found.ensures.2.1 in
    let answer = c.look_answer-requested.ensures t.0 t.1 t.2 in
    let old = c.pass.inside in
    let new = c.load-found.new.seat in
    let P : PassView → Type 0 = λ h. Calls h Call.Look (Reply.Seen c.look_answer-requested.result)
    (pass_of new.table_id new.me.0 old.number (stage_of old.phase old.value) old.depth old.count c.look_answer-requested.result) in
    subst P c.pass.view_is
    (called_by old.seat.me.0 new.me.0 _ _ _ c.pass.invariant.1.number_is
    (subst (λ (b : Bool). Called old.seat.me.0 Call.Look (Reply.Seen b) new.me.0) (sym answer) t.3.0))

pub returns-clause-asked : goal.returns-clause-asked
returns-clause-asked c saw =
    let t = c.load-found.ensures.2.1 in
    let answer = c.look_answer-requested.ensures t.0 t.1 t.2 in
    let new = c.load-found.new.seat.me.0 in
    let asked : WasCancelled new.seen c.pass.inside.seat.me.0.number = request-cancelled new.limits new.seen _ (t.3.2 ∙ sym answer ∙ saw) in
    let number = sym c.pass.invariant.1.number_is ∙ ap (λ (q : PassView). q.number) c.pass.view_is in
    subst (WasCancelled new.seen) number asked

pub returns-clause-lawful : goal.returns-clause-lawful
returns-clause-lawful c = (invariant_of-pass c).1.pass
