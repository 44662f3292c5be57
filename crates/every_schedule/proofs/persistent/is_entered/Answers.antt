use Rattle.std.proofs.Common.{◌≡◌, Bool, true, false, not, ◌&&◌, length, refl, sym, ap, ◌∙◌, subst}
use Rattle.std.specs.Prelude.{Some}
use Rattle.every_schedule.specs.Persistent.{best, in_set, is_lighter, is_persistent, weight_at}
use Rattle.every_schedule.specs.Places.{Place}
use Rattle.every_schedule.specs.Private.Persistent.{IsBest}
use Rattle.every_schedule.specs.Private.Standing.{here}
use Rattle.every_schedule.specs.Reduced.{is_made, leapt}
use Rattle.every_schedule.proofs.Seeds.{entered_out}
use Rattle.every_schedule.proofs.persistent.is_entered.Goals as goal

not_false : (b : Bool) → not b ≡ false → b ≡ true
not_false true e = refl
not_false false e = absurd (cc)

pub returns-clause-entered : goal.returns-clause-entered
returns-clause-entered c =
    let p = here c.args.current.now in
    let n = c.args.at_once in
    let x = c.in-Some.seed in
    let same = c.rows_of.ensures.same.here in
    let b : Bool = c.in_ok-chosen.chosen in
    let is = subst (λ (q : Place). b ≡ not (is_made n q.world x.fiber) && (is_persistent q.world x.set.items && is_lighter (weight_at q) (leapt n q x.fiber)))
    same c.in_ok-chosen.ensures.chosen in
    let found = subst (λ (q : Place). IsBest q.world (best q.world (length q.world.fibers)) (Some x)) same
    (subst (IsBest (here c.rows_of.new.current).world _) c.in-Some.is c.in_ok-best.ensures) in
    entered_out n p x b is c.args.fiber (not_false n.chosen c.if-not-at_once.false)
    (ap (λ s. in_set s c.args.fiber) (sym c.as_slice-2.ensures.value) ∙ sym c.is_inside.ensures ∙ c.if-is_inside.false) found
