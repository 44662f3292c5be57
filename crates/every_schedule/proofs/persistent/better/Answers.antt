use Rattle.std.proofs.Common.{◌≡◌, ℕ, true, false, length, refl, sym, ap, ◌∙◌}
use Rattle.std.specs.List.{slice_get}
use Rattle.every_schedule.specs.Persistent.{is_ready_in, members, set_of}
use Rattle.every_schedule.specs.Private.Standing.{here}
use Rattle.every_schedule.specs.Private.Persistent.{has_fewer, least, row_at}
use Rattle.every_schedule.proofs.Seeds.{small_stays}
use Rattle.every_schedule.proofs.Sets.{best_replaced, best_stays, best_waits, rows_wide}
use Rattle.every_schedule.proofs.persistent.better.Goals as goal

pub set_of-requires-clause-wide : goal.set_of-requires-clause-wide
set_of-requires-clause-wide c =
    let w = (here c.args.current.now).world in
    let rows = c.args.rows.now in
    rows_wide w rows (length rows) c.requires.rows c.requires.rows.many

pub returns-then-not-is_ready_at : goal.returns-then-not-is_ready_at
returns-then-not-is_ready_at c =
    let w = (here c.args.current.now).world in
    let f = c.args.fiber in
    let waits : is_ready_in w (slice_get w.fibers f) ≡ false =
    ap (λ (i : ℕ). is_ready_in w (slice_get w.fibers i)) (sym c.from-place.ensures) ∙ sym c.is_ready_at.ensures ∙ c.if-not-is_ready_at.true in
    best_waits w f c.args.best waits c.requires.best

pub returns-then-not-can_be_smaller : goal.returns-then-not-can_be_smaller
returns-then-not-can_be_smaller c =
    let w = (here c.args.current.now).world in
    let f = c.args.fiber in
    let ready : is_ready_in w (slice_get w.fibers f) ≡ true =
    ap (λ (i : ℕ). is_ready_in w (slice_get w.fibers i)) (sym c.from-place.ensures) ∙ sym c.is_ready_at.ensures ∙ c.if-not-is_ready_at.false in
    best_stays w f (members (set_of w f)) c.args.best refl ready c.requires.best
    (small_stays w f c.args.best c.requires.born
    (ap (λ (i : ℕ). has_fewer (least i 0 (row_at w i)) c.args.best) (sym c.from-place.ensures)
    ∙ sym (c.can_be_smaller.ensures w c.requires.rows) ∙ c.if-not-can_be_smaller.true))

pub returns-then-not-is_fewer : goal.returns-then-not-is_fewer
returns-then-not-is_fewer c =
    let w = (here c.args.current.now).world in
    let f = c.args.fiber in
    let ready : is_ready_in w (slice_get w.fibers f) ≡ true =
    ap (λ (i : ℕ). is_ready_in w (slice_get w.fibers i)) (sym c.from-place.ensures) ∙ sym c.is_ready_at.ensures ∙ c.if-not-is_ready_at.false in
    let is : c.in_ok-set.set.items ≡ set_of w f = c.in_ok-set.ensures.set w c.requires.rows ∙ ap (set_of w) c.from-place.ensures in
    let many : c.members-many.result ≡ members (set_of w f) = c.members-many.ensures ∙ ap members (c.as_slice.ensures.value ∙ is) in
    best_stays w f c.members-many.result c.args.best many ready c.requires.best (sym c.is_fewer.ensures ∙ c.if-not-is_fewer.true)

pub returns : goal.returns
returns c =
    let w = (here c.args.current.now).world in
    let f = c.args.fiber in
    let ready : is_ready_in w (slice_get w.fibers f) ≡ true =
    ap (λ (i : ℕ). is_ready_in w (slice_get w.fibers i)) (sym c.from-place.ensures) ∙ sym c.is_ready_at.ensures ∙ c.if-not-is_ready_at.false in
    let is : c.in_ok-set.set.items ≡ set_of w f = c.in_ok-set.ensures.set w c.requires.rows ∙ ap (set_of w) c.from-place.ensures in
    let many : c.members-many.result ≡ members (set_of w f) = c.members-many.ensures ∙ ap members (c.as_slice.ensures.value ∙ is) in
    best_replaced w f c.members-many.result c.args.best many ready c.requires.best
    (record { fiber = f; set = c.in_ok-set.set; many = c.members-many.result }) refl is refl (c.in_ok-set.ensures.many ∙ c.requires.rows.many)
    (sym c.is_fewer.ensures ∙ c.if-not-is_fewer.false)
