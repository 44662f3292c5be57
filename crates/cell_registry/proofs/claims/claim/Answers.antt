use Rattle.cell_registry.proofs.Prelude.{◌≡◌, ℕ, ◌<◌, ◌∙◌, arith, Band, Fibers, left, next_of, band_word}
use Rattle.cell_registry.proofs.Claiming.{sees_next, tries, failed, won, rises, all_given, looked_twice, same_twice, looked_then_claimed, still_has, still_may}
use Rattle.cell_registry.proofs.claims.claim.Goals as goal

place_lt : (b : Band) (i words : ℕ) → i ≡ band_word b → 2 < words → i < words
place_lt Fibers i words e h = omega arith
place_lt _ i words e h = omega arith

pub load-next-requires : goal.load-next-requires
load-next-requires c =
    let t = c.requires.table in
    let place = c.claim_place-place.ensures in
    (t.0, place_lt c.args.band _ _ place t.1, rw place (sees_next c.args.band _ _ _ _ t.2 c.requires.may.0))

pub compare_exchange-found-requires : goal.compare_exchange-found-requires
compare_exchange-found-requires c =
    let t = c.requires.table in
    let i = c.loop-next.invariant in
    let o = c.requires.may in
    let limit = c.requires.limit.0 in
    let place = c.claim_place-place.ensures in (
      i.table ∙ t.0,
      place_lt c.args.band _ _ place t.1,
      rw place (tries c.args.band _ _ _ c.loop-next.next _ i.none_out (still_has _ _ i.same o.0) (still_may c.args.band _ _ i.same o.1) (omega arith)),
    )

pub returns-then-found-next-clause-claim : goal.returns-then-found-next-clause-claim
returns-then-found-next-clause-claim c =
    let i = c.loop-next.invariant in
    let told = c.compare_exchange-found.ensures.2.1 c.args.band c.claim_place-place.ensures in
    looked_then_claimed c.args.band _ _ _ _ c.requires.may.0 i.looked i.same (won c.args.band _ _ _ _ told c.if-found-next.true)

pub loop-next-init : goal.loop-next-init
loop-next-init c =
    let e = c.load-next.ensures in
    let saw = e.2.1 c.args.band c.claim_place-place.ensures in
    record {
      table = e.0;
      none_out = e.2.0;
      looked = saw.0;
      same = saw.1;
      next = (λ j. next_of c.args.band (left (saw.1.limits j) c.load-next.new.seat.me.0.seen)) ∙ saw.2;
    }

pub loop-next-smaller : goal.loop-next-smaller
loop-next-smaller c =
    let i = c.loop-next.invariant in
    let told = c.compare_exchange-found.ensures.2.1 c.args.band c.claim_place-place.ensures in
    let up = rises c.args.band _ _ _ _ i.next (failed c.args.band _ _ _ _ told c.if-found-next.false) in
    let ne = c.if-found-next.false in
    omega arith

pub loop-next-preserved : goal.loop-next-preserved
loop-next-preserved c =
    let i = c.loop-next.invariant in
    let e = c.compare_exchange-found.ensures in
    let saw = failed c.args.band _ _ c.loop-next.seat.me.0 c.compare_exchange-found.new.seat.me.0 (e.2.1 c.args.band c.claim_place-place.ensures)
    c.if-found-next.false in
    record {
      table = e.0 ∙ i.table;
      none_out = e.2.0;
      looked = looked_twice _ _ c.compare_exchange-found.new.seat.me.0 i.looked i.same saw.0;
      same = same_twice _ _ _ i.same saw.1;
      next = (λ j. next_of c.args.band (left (saw.1.limits j) c.compare_exchange-found.new.seat.me.0.seen)) ∙ saw.2;
    }

pub returns-clause-claim : goal.returns-clause-claim
returns-clause-claim c =
    let i = c.loop-next.invariant in
    let is = c.from.ensures in
    let over = c.loop-next-test.false in
    all_given c.args.band _ _ c.loop-next.next c.args.limit c.requires.limit.2 i.looked i.same i.next (omega arith) c.requires.limit.1
