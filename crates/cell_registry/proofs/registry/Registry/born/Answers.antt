use Rattle.cell_registry.proofs.Prelude.{◌≡◌, ap, arith, refl, subst, Fibers, Counts, PassView, RegistryView, pass_of, stage_of}
use Rattle.cell_registry.proofs.Claiming.{sees_next}
use Rattle.cell_registry.proofs.Giving.{next_of-most}
use Rattle.cell_registry.proofs.Tokens.{of_registry, pass_of-step, seat_has, seated_still}
use Rattle.cell_registry.proofs.registry.Registry.born.Goals as goal

pub load-found-requires : goal.load-found-requires
load-found-requires c =
    let of = of_registry _ _ _ _ c.self.view_is c.pass.view_is c.requires.own in
    let words = c.self.invariant.words in
    let place = c.claim_place.ensures in
    (ap (λ (s : RegistryView). s.table) of, omega arith, rw place (sees_next Fibers _ _ _ _ c.pass.invariant.0 (seat_has _ _ refl c.pass.invariant.1)))

pub invariant_of-pass : goal.invariant_of-pass
invariant_of-pass c =
    let e = c.load-found.ensures in
    let saw = e.2.1 Fibers c.claim_place.ensures in
    (e.2.0, seated_still _ _ _ _ _ _ _ _ _ saw.1 saw.0.seen saw.0.legal c.pass.invariant.1)

pub returns-clause-lawful : goal.returns-clause-lawful
returns-clause-lawful c = (invariant_of-pass c).1.pass

pub overflow_cast-result : goal.overflow_cast-result
overflow_cast-result c =
    let saw = c.load-found.ensures.2.1 Fibers c.claim_place.ensures in
    let limits = c.pass.invariant.1.pass.limits in
    let fibers = limits.fibers in
    let most = next_of-most Fibers c.pass.inside.seat.me.0.limits c.load-found.new.seat.me.0.seen limits saw.0.legal in
    let next = saw.2 in
    record { fits = omega arith }

pub returns-clause-same : goal.returns-clause-same
returns-clause-same c =
    let saw = c.load-found.ensures.2.1 Fibers c.claim_place.ensures in
    let old = c.pass.inside in
    let new = c.load-found.new.seat in
    let P : PassView → Type 0 =
    λ h. pass_of new.table_id new.me.0 old.number (stage_of old.phase old.value) old.depth old.count old.saw ≡ record h { seen = new.me.0.seen } in
    subst P c.pass.view_is (pass_of-step _ _ old.seat.me.0 new.me.0 _ _ _ _ _ c.load-found.ensures.0 saw.1.limits saw.1.fibers)

pub returns-clause-counted : goal.returns-clause-counted
returns-clause-counted c =
    let saw = c.load-found.ensures.2.1 Fibers c.claim_place.ensures in
    let old = c.pass.inside in
    let new = c.load-found.new.seat in
    let P : PassView → Type 0 =
    λ h. Counts h c.load-found.result (pass_of new.table_id new.me.0 old.number (stage_of old.phase old.value) old.depth old.count old.saw) in
    subst P c.pass.view_is record { look = saw.0; next = saw.2 }
