use Rattle.std.proofs.Common.{◌≡◌, ℕ, suc, ◌+◌, ◌-◌, length, sym, ap, ◌∙◌, arith}
use Rattle.every_schedule.specs.Persistent.{grown}
use Rattle.every_schedule.proofs.Sets.{grown_next, grown_none, grown_stays}
use Rattle.every_schedule.proofs.persistent.grow.Goals as goal

pub returns-then-not-joined : goal.returns-then-not-joined
returns-then-not-joined c = λ w are.
    let told = c.spread_once-joined.ensures in
    let s = c.loop-again.set in
    let stays = told.stays c.if-not-joined.true in
    stays
    ∙ sym (grown_stays w (length c.args.rows.now - c.loop-again._again) s (sym (told.spread w are) ∙ stays))
    ∙ c.loop-again.invariant w are

pub loop-again-preserved : goal.loop-again-preserved
loop-again-preserved c = λ w are.
    let many = length c.args.rows.now in
    let m : ℕ = many - (c.loop-again._again + 1) in
    let left : many - c.loop-again._again ≡ suc m = omega arith in
    sym (grown_next w (many - c.loop-again._again) m c.loop-again.set c.spread_once-joined.new.set left (c.spread_once-joined.ensures.spread w are))
    ∙ c.loop-again.invariant w are

pub returns : goal.returns
returns c = λ w are.
    let none : 0 ≡ length c.args.rows.now - c.loop-again._again = omega arith in
    sym (grown_none w c.loop-again.set) ∙ ap (λ (k : ℕ). grown k w c.loop-again.set) none ∙ c.loop-again.invariant w are
