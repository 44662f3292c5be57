use Rattle.cell_registry.proofs.Prelude.{ℕ, false, sym, ◌∙◌, ap, arith, refl, subst, Me, Limits, Knowledge, Running, IsOpen, Has, RegistryView, PassView}
use Rattle.cell_registry.proofs.Prelude.{IsSeated, pass_of, stage_of}
use Rattle.cell_registry.proofs.Seats.{splits}
use Rattle.cell_registry.proofs.Tokens.{of_registry, seat_has, seat_cell, call-prefix, seated_still, parent-same, child_seated}
use Rattle.cell_registry.proofs.registry.Registry.start.Goals as goal

pub claim-requires-clause-table : goal.claim-requires-clause-table
claim-requires-clause-table c =
    let of = of_registry _ _ _ _ c.self.view_is c.pass.view_is c.requires.own in
    let words = c.self.invariant.words in
    (ap (λ (s : RegistryView). s.table) of, omega arith, c.pass.invariant.0)

pub claim-requires-clause-limit : goal.claim-requires-clause-limit
claim-requires-clause-limit c =
    let of = of_registry _ _ _ _ c.self.view_is c.pass.view_is c.requires.own in
    (sym (ap (λ (k : Limits). k.fibers) c.self.invariant.key_is), sym (ap (λ (s : RegistryView). s.limits.fibers) of), c.pass.invariant.1.pass.limits)

pub claim-requires-clause-may : goal.claim-requires-clause-may
claim-requires-clause-may c = (
  seat_has _ _ refl c.pass.invariant.1,
  subst IsOpen (sym (ap (λ o. o.0) (seat_cell _ _ _ _ _ _ _ c.pass.invariant.1)))
      (subst (λ (q : PassView). IsOpen q.stage) (sym c.pass.view_is) c.requires.open),
)

-- where all numbers were given
pub invariant_of-pass : goal.invariant_of-pass
invariant_of-pass c = let e = c.in_default.ensures.claim in (c.claim.ensures.seat.1, seated_still _ _ _ _ _ _ _ _ _ e.1 e.0.seen e.0.legal c.pass.invariant.1)

pub split_seat-seat-requires : goal.split_seat-seat-requires
split_seat-seat-requires c =
    let of = of_registry _ _ _ _ c.self.view_is c.pass.view_is c.requires.own in
    let words = c.self.invariant.words in
    let t = c.in-Some.ensures.claim in (
      c.claim.ensures.seat.0 ∙ ap (λ (s : RegistryView). s.table) of,
      omega arith,
      splits _ _ c.claim.new.seat.me.0 c.in-Some.number _ t.fibers t.new.above
          (subst (λ (f : ℕ). Has c.pass.inside.seat.me.0.fibers f) (sym t.number) (seat_has _ _ refl c.pass.invariant.1)),
    )

pub invariant_of-pass-2 : goal.invariant_of-pass-2
invariant_of-pass-2 c =
    let e = c.split_seat-seat.ensures in
    let t = c.in-Some.ensures.claim in
    let old = c.pass.inside in
    let P : Knowledge → Type 0 =
    λ v. IsSeated v (pass_of c.split_seat-seat.new.seat.table_id v old.number (stage_of old.phase old.value) old.depth old.count old.saw) in (
      ap (λ (m : Me ℕ Knowledge). m.1) e.2 ∙ c.claim.ensures.seat.1,
      subst P (sym (ap (λ (m : Me ℕ Knowledge). m.0) e.2))
          (seated_still _ _ _ _ _ _ _ _ _ (parent-same _ _ _ t) (call-prefix _ _ _ _ _ _ _ t.call) t.call.legal c.pass.invariant.1),
    )

pub invariant_of-result-2 : goal.invariant_of-result-2
invariant_of-result-2 c =
    let me = c.split_seat-seat.ensures.4 in
    let P : Knowledge → Type 0 = λ v. IsSeated v (pass_of c.split_seat-seat.result.table_id v c.in-Some.number Running 0 0 false) in (
      ap (λ (m : Me ℕ Knowledge). m.1) me,
      subst P (sym (ap (λ (m : Me ℕ Knowledge). m.0) me)) (child_seated _ _ _ _ c.pass.invariant.1.pass.limits c.in-Some.ensures.claim),
    )

pub returns-in_default-clause-lawful : goal.returns-in_default-clause-lawful
returns-in_default-clause-lawful c = (invariant_of-pass c).1.pass

pub returns-clause-lawful : goal.returns-clause-lawful
returns-clause-lawful c = (invariant_of-pass-2 c).1.pass

pub returns-clause-child : goal.returns-clause-child
returns-clause-child c = (invariant_of-result-2 c).1.pass
