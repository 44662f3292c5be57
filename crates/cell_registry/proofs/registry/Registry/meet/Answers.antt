use Rattle.cell_registry.proofs.Prelude.{ℕ, sym, ◌∙◌, ap, arith, subst, refl, Me, Knowledge, Has, IsOpen, RegistryView}
use Rattle.cell_registry.proofs.Seats.{hosts, meets}
use Rattle.cell_registry.proofs.Tokens.{of_registry, seat_has, seat_cell, met_seated}
use Rattle.cell_registry.proofs.registry.Registry.meet.Goals as goal

pub join_seat-requires : goal.join_seat-requires
join_seat-requires c =
    let this = ap (λ (s : RegistryView). s.table) (of_registry _ _ _ _ c.self.view_is c.met.view_is c.requires.first) in
    let that = ap (λ (s : RegistryView). s.table) (of_registry _ _ _ _ c.self.view_is c.b.view_is c.requires.second) in
    let words = c.self.invariant.words in (
      this,
      that,
      c.b.invariant.0,
      omega arith,
      hosts _ _ _ _ _ (seat_has _ _ refl c.b.invariant.1)
          (λ opened. c.b.invariant.1.unstored (subst IsOpen (ap (λ o. o.0) (seat_cell _ _ _ _ _ _ _ c.b.invariant.1)) opened)),
    )

pub load-requires : goal.load-requires
load-requires c =
    let this = ap (λ (s : RegistryView). s.table) (of_registry _ _ _ _ c.self.view_is c.met.view_is c.requires.first) in
    let words = c.self.invariant.words in
    let j = c.join_seat.ensures in
    let has = subst (λ (v : Knowledge). Has v.fibers v.number) (sym (ap (λ (m : Me ℕ Knowledge). m.0) j.2)) (seat_has _ _ refl c.met.invariant.1) in
    let place = c.claim_place.ensures in
    (j.0 ∙ this, omega arith, rw place (meets _ _ _ _ (ap (λ (m : Me ℕ Knowledge). m.1) j.2 ∙ c.met.invariant.0) has))

pub invariant_of-met : goal.invariant_of-met
invariant_of-met c =
    let j = c.join_seat.ensures in
    let l = c.load.ensures in (
      l.2.0,
      met_seated c.met.inside.seat.me.0 c.b.inside.seat.me.0 _ _ _ _ _ _ _ _ _ (ap (λ (m : Me ℕ Knowledge). m.0) j.2) l.2.1
          c.b.invariant.1.pass.born c.met.invariant.1,
    )

pub returns-clause-lawful : goal.returns-clause-lawful
returns-clause-lawful c = (invariant_of-met c).1.pass
