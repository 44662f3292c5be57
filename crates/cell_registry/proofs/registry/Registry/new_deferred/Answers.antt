use Rattle.cell_registry.proofs.Prelude.{sym, ap, arith, refl, Limits, Deferreds, RegistryView}
use Rattle.cell_registry.proofs.Tokens.{of_registry, seat_has, seated_given}
use Rattle.cell_registry.proofs.registry.Registry.new_deferred.Goals as goal

pub claim-requires-clause-table : goal.claim-requires-clause-table
claim-requires-clause-table c =
    let of = of_registry _ _ _ _ c.self.view_is c.pass.view_is c.requires.own in
    let words = c.self.invariant.words in
    (ap (λ (s : RegistryView). s.table) of, omega arith, c.pass.invariant.0)

pub claim-requires-clause-limit : goal.claim-requires-clause-limit
claim-requires-clause-limit c =
    let of = of_registry _ _ _ _ c.self.view_is c.pass.view_is c.requires.own in
    (sym (ap (λ (k : Limits). k.deferreds) c.self.invariant.key_is), sym (ap (λ (s : RegistryView). s.limits.deferreds) of), c.pass.invariant.1.pass.limits)

pub claim-requires-clause-may : goal.claim-requires-clause-may
claim-requires-clause-may c = (seat_has _ _ refl c.pass.invariant.1, tt)

pub invariant_of-pass : goal.invariant_of-pass
invariant_of-pass c = (c.claim.ensures.seat.1, seated_given Deferreds (λ m fs. refl) c.claim.result _ _ _ _ _ _ _ _ _ c.claim.ensures.claim c.pass.invariant.1)

pub returns-clause-lawful : goal.returns-clause-lawful
returns-clause-lawful c = (invariant_of-pass c).1.pass
