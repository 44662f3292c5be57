use Rattle.std.proofs.{Common.{◌≡◌, ◌⊎◌, ℕ, Some, true, false, sym, ap, ◌∙◌, arith, subst}, lemmas.{Grind.common_steps, Option.{gets, same_Some}}}
use Rattle.std.specs.{Prelude.{is_some, not}, List.slice_get}
use Rattle.scheduled_core.{specs.{Finals.{HasEnded, IsAtRest}, Fitting.{Fits, cell_registered}}, proofs.Settling.{below_length, none_of, one_settled}}
use Rattle.sampled_schedules.proofs.walks.pick.Goals.{then-not-is_done+then-is_none, then-not-is_done+else-is_none+else-below-eq0, else-not-is_done}
use Rattle.sampled_schedules.proofs.walks.pick.Goals as goal

pub is_done-requires : goal.is_done-requires
is_done-requires c =
    let at : slice_get c.args.fibers.now c.loop-index.index ≡ Some c.index-fibers-index.result = grind (arith, common_steps, gets) in
    let fits = c.requires.each c.loop-index.index c.index-fibers-index.result at in
    subst (λ (n : ℕ). Fits (cell_registered c.args.registry.now.state n) c.index-fibers-index.result) (sym fits.number) fits

pub loop-index-preserved : goal.loop-index-preserved
loop-index-preserved c =
    let i = c.loop-index.invariant in
    let g = c.index-fibers-index.result in
    let at : slice_get c.args.fibers.now c.loop-index.index ≡ Some g = grind (arith, common_steps, gets) in
    let number = (c.requires.each c.loop-index.index g at).number in
    elim c.if-not-is_done.branch [
      | then-not-is_done+then-is_none w ↦ record {
        none = λ e. absurd (let no = sym e ∙ w.picked-is in cc);
        number = λ f e.
            let same : c.loop-index.index ≡ f = same_Some c.loop-index.index f (sym w.picked-is ∙ e) in
            let low = c.loop-index-test.true in
            let most = c.limits.ensures.lawful.sound.next_fiber in
            let many = c.requires.many in
            omega arith;
        able = let able = w.able-is in omega arith;
      }
      | then-not-is_done+else-is_none+else-below-eq0 w ↦ record {
        none = λ e. absurd (let nobody : is_some c.loop-index.picked ≡ false = ap is_some (sym w.picked-is ∙ e) in let no : false ≡ true =
            sym nobody ∙ w.is_none.ensures ∙ ap not w.if-is_none.false in cc);
        number = λ f e. i.number f (sym w.picked-is ∙ e);
        able = let able = w.able-is in omega arith;
      }
      | else-not-is_done w ↦ record {
        none = λ e. one_settled (λ f x. HasEnded x ⊎ IsAtRest c.args.registry.now.state f x) c.args.fibers.now c.loop-index.index g
            (i.none (sym w.picked-is ∙ e)) at
            (subst (λ n. HasEnded g ⊎ IsAtRest c.args.registry.now.state n g) number (c.is_done.ensures.done w.if-not-is_done.false));
        number = λ f e. i.number f (sym w.picked-is ∙ e);
        able = let able = w.able-is in omega arith;
      }
    ]

pub returns-clause-none : goal.returns-clause-none
returns-clause-none c =
    none_of c.loop-index.picked
    (λ e f g at. c.loop-index.invariant.none e f g (let long = below_length c.args.fibers.now f g at in let end = c.loop-index-test.false in omega arith) at)
