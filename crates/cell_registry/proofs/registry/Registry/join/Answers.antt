use Rattle.cell_registry.proofs.Prelude.{◌≡◌, ◌<◌, sym, ◌∙◌, ap, arith, subst, refl, Limits, Knowledge, join_reply, value_place, Called, RegistryView, PassView}
use Rattle.cell_registry.proofs.Prelude.{IsSeated, OnlySees, Calls, pass_of, stage_of, Reply, Call}
use Rattle.effect_term.specs.declared.reply.JoinReply.{JoinReply}
use Rattle.cell_registry.proofs.Replies.{waits_reply, outcome_of}
use Rattle.cell_registry.proofs.CellTurns.{joins}
use Rattle.cell_registry.proofs.OwnTurns.{finds_as}
use Rattle.cell_registry.proofs.Tokens.{of_registry, seat_has, called_by, call-prefix, pass_of-step, seated_still}
use Rattle.cell_registry.proofs.registry.Registry.join.Goals as goal

pub fetch_or-found-requires : goal.fetch_or-found-requires
fetch_or-found-requires c =
    let r = c.self.invariant in
    let p = c.pass.invariant in
    let of = of_registry _ _ _ _ c.self.view_is c.pass.view_is c.requires.own in
    let within : c.args.fiber < c.self.inside.table.shared.key.fibers = rw (r.key_is ∙ ap (λ (s : RegistryView). s.limits) c.self.view_is) c.requires.within in
    let fibers = ap (λ (k : Limits). k.fibers) r.key_is in
    let words = r.words in
    (ap (λ (s : RegistryView). s.table) of, omega arith, joins _ _ _ c.cell_place.result c.args.fiber _ p.0 (seat_has _ _ refl p.1) within c.cell_place.ensures)

-- ---- where the fiber hasn't ended
pub invariant_of-pass : goal.invariant_of-pass
invariant_of-pass c =
    let told = c.fetch_or-found.ensures.2 in
    let t = told.1 c.args.fiber c.cell_place.ensures in
    (told.0, seated_still _ _ _ _ _ _ _ _ _ t.3.1 (call-prefix _ _ _ _ _ _ _ t.3.0) t.3.0.legal c.pass.invariant.1)

pub returns-then-not-has_ended-clause-same : goal.returns-then-not-has_ended-clause-same
returns-then-not-has_ended-clause-same c =
    let t = c.fetch_or-found.ensures.2.1 c.args.fiber c.cell_place.ensures in
    let old = c.pass.inside in
    let new = c.fetch_or-found.new.seat in
    let P : PassView → Type 0 = λ h. OnlySees h (pass_of new.table_id new.me.0 old.number (stage_of old.phase old.value) old.depth old.count old.saw) in
    subst P c.pass.view_is (pass_of-step _ _ old.seat.me.0 new.me.0 _ _ _ _ _ c.fetch_or-found.ensures.0 t.3.1.limits t.3.1.fibers)

pub returns-then-not-has_ended-clause-lawful : goal.returns-then-not-has_ended-clause-lawful
returns-then-not-has_ended-clause-lawful c = (invariant_of-pass c).1.pass

pub returns-then-not-has_ended-clause-call : goal.returns-then-not-has_ended-clause-call
returns-then-not-has_ended-clause-call c =
    let t = c.fetch_or-found.ensures.2.1 c.args.fiber c.cell_place.ensures in
    let answer = waits_reply t.0.stage (sym (c.has_ended.ensures t.0 t.1 t.2) ∙ c.if-not-has_ended.true) in
    let old = c.pass.inside in
    let new = c.fetch_or-found.new.seat in
    let P : PassView → Type 0 = λ h. Calls h (Call.Join c.args.fiber) (Reply.Join JoinReply.Waits)
    (pass_of new.table_id new.me.0 old.number (stage_of old.phase old.value) old.depth old.count old.saw) in
    subst P c.pass.view_is
    (called_by old.seat.me.0 new.me.0 _ _ _ c.pass.invariant.1.number_is
    (subst (λ (r : JoinReply). Called old.seat.me.0 (Call.Join c.args.fiber) (Reply.Join r) new.me.0) (sym answer) t.3.0))

-- ---- where it has
pub load-value-requires : goal.load-value-requires
load-value-requires c =
    let r = c.self.invariant in
    let told = c.fetch_or-found.ensures.2 in
    let t = told.1 c.args.fiber c.cell_place.ensures in
    let of = of_registry _ _ _ _ c.self.view_is c.pass.view_is c.requires.own in
    let p = seated_still _ _ _ c.fetch_or-found.new.seat.table_id _ _ _ _ _ t.3.1 (call-prefix _ _ _ _ _ _ _ t.3.0) t.3.0.legal c.pass.invariant.1 in
    let within = c.requires.within in
    let fibers = ap (λ (s : RegistryView). s.limits.fibers) c.self.view_is in
    let words = r.words in
    let place = c.value_place-place.ensures in (
      c.fetch_or-found.ensures.0 ∙ ap (λ (s : RegistryView). s.table) of,
      omega arith,
      finds_as _ _ _ c.value_place-place.result c.args.fiber _ told.0 (seat_has _ _ refl p)
          (place ∙ ap (λ (k : Limits). value_place k c.args.fiber) (sym r.key_is)),
    )

pub invariant_of-pass-2 : goal.invariant_of-pass-2
invariant_of-pass-2 c =
    let t = c.fetch_or-found.ensures.2.1 c.args.fiber c.cell_place.ensures in
    let l = c.load-value.ensures in
    let old = c.pass.inside in
    let new = c.load-value.new.seat in
    let P : Knowledge → Type 0 = λ v. IsSeated v (pass_of new.table_id v old.number (stage_of old.phase old.value) old.depth old.count old.saw) in
    (l.2.0, subst P (sym l.2.1.0) (seated_still _ _ _ _ _ _ _ _ _ t.3.1 (call-prefix _ _ _ _ _ _ _ t.3.0) t.3.0.legal c.pass.invariant.1))

pub returns-clause-same : goal.returns-clause-same
returns-clause-same c =
    let t = c.fetch_or-found.ensures.2.1 c.args.fiber c.cell_place.ensures in
    let l = c.load-value.ensures in
    let old = c.pass.inside in
    let new = c.load-value.new.seat in
    let P : PassView → Type 0 = λ h. OnlySees h (pass_of new.table_id new.me.0 old.number (stage_of old.phase old.value) old.depth old.count old.saw) in
    subst P c.pass.view_is
    (pass_of-step _ _ old.seat.me.0 new.me.0 _ _ _ _ _ (l.0 ∙ c.fetch_or-found.ensures.0) (ap (λ (v : Knowledge). v.limits) l.2.1.0 ∙
    t.3.1.limits) (ap (λ (v : Knowledge). v.fibers) l.2.1.0 ∙ t.3.1.fibers))

pub returns-clause-lawful : goal.returns-clause-lawful
returns-clause-lawful c = (invariant_of-pass-2 c).1.pass

pub returns-clause-call : goal.returns-clause-call
returns-clause-call c =
    let t = c.fetch_or-found.ensures.2.1 c.args.fiber c.cell_place.ensures in
    let l = c.load-value.ensures in
    let of = of_registry _ _ _ _ c.self.view_is c.pass.view_is c.requires.own in
    let ends = outcome_of t.0.stage (sym (c.has_ended.ensures t.0 t.1 t.2) ∙ c.if-not-has_ended.false) in
    let place = c.value_place-place.ensures ∙ ap (λ (k : Limits). value_place k c.args.fiber) (sym (t.3.1.limits ∙ ap (λ (s : RegistryView). s.limits) of)) in
    let holds = l.2.1.1 c.args.fiber place ends.0 (t.3.2 ∙ ends.1) in
    let answer = c.outcome_answer.ensures t.0 ends.0 t.1 t.2 ends.1 holds in
    let replied : join_reply t.0.stage ≡ JoinReply.Ended c.outcome_answer.result = ap join_reply ends.1 ∙ ap JoinReply.Ended (sym answer) in
    let old = c.pass.inside in
    let new = c.load-value.new.seat in
    let made = subst (λ (r : JoinReply). Called old.seat.me.0 (Call.Join c.args.fiber) (Reply.Join r) c.fetch_or-found.new.seat.me.0) replied t.3.0 in
    let now = subst (λ (v : Knowledge). Called old.seat.me.0 (Call.Join c.args.fiber) (Reply.Join (JoinReply.Ended c.outcome_answer.result)) v)
    (sym l.2.1.0) made in
    let P : PassView → Type 0 = λ h. Calls h (Call.Join c.args.fiber) (Reply.Join (JoinReply.Ended c.outcome_answer.result))
    (pass_of new.table_id new.me.0 old.number (stage_of old.phase old.value) old.depth old.count old.saw) in
    subst P c.pass.view_is (called_by old.seat.me.0 new.me.0 _ _ _ c.pass.invariant.1.number_is now)
