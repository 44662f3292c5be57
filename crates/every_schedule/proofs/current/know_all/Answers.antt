use Rattle.std.proofs.Common.{◌≡◌, ◌+◌, length, sym, ap, ◌∙◌, subst, arith, length-append}
use Rattle.std.specs.Prelude.{List, Some}
use Rattle.std.specs.List.{slice_get}
use Rattle.std.proofs.lemmas.Grind.{common_steps}
use Rattle.std.proofs.lemmas.Option.{gets}
use Rattle.every_schedule.specs.declared.known.Known.{Known}
use Rattle.every_schedule.specs.Private.Knowing.{AreKnownOf}
use Rattle.every_schedule.proofs.Knowing.{known_added}
use Rattle.every_schedule.proofs.current.know_all.Goals as goal

pub loop-number-preserved : goal.loop-number-preserved
loop-number-preserved c =
    let known = c.loop-number.invariant in
    let fs = c.args.pool.now.items.items in
    let ks = c.loop-number.known.items in
    let many = known.many in
    let state : slice_get fs c.loop-number.number ≡ Some c.index.result.now = grind (arith, common_steps, gets) in
    let at : slice_get fs (length ks) ≡ Some c.index.result.now = ap (slice_get fs) many ∙ state in
    record {
      known = subst (λ (l : List Known). AreKnownOf fs l) (sym c.in_ok-push.ensures.items)
          (known_added fs ks c.index.result.now _ at c.in_ok-of.ensures known.known);
      many = ap length c.in_ok-push.ensures.items ∙ length-append ks _ ∙ ap (λ n. n + 1) many;
    }
