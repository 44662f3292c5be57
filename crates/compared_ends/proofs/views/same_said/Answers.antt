use Rattle.std.proofs.{Common.{◌≡◌, ◌∙◌, ◌<◌, ◌+◌, length, refl, sym, ap, arith, rules, take}, lemmas.Option.{slice_get-get_or, slice_get_read}}
use Rattle.std.specs.{Prelude.Some, List.slice_get}
use Rattle.fiber_frames.specs.declared.mark.Mark.TheVariants.{Cut}
use Rattle.compared_ends.{specs.Views.{said, value_said}, proofs.ValuesSaid.{both_say, one_says_more, other_says_else, other_says_more, silent_next}}
use Rattle.compared_ends.proofs.views.same_said.Goals.{then-next-other-via-then-next-other, then-next-other-via-else-next-other+then-not-says}
use Rattle.compared_ends.proofs.views.same_said.Goals.{in-Some+else-next-other+else-not-says, in_default}
use Rattle.compared_ends.proofs.views.same_said.Goals as goal

pub returns-then-next-other-clause-other : goal.returns-then-next-other-clause-other
returns-then-next-other-clause-other c = λ is.
    let one = c.args.one.now in
    let other = c.args.other.now in
    let i = c.loop-mark.mark-index in
    let n = c.next_said-next.result in
    let at : slice_get one i ≡ Some c.mark-item.result =
    slice_get_read one _ i c.mark-item.result refl (omega arith) c.mark-item.is in
    let says : value_said c.mark-item.result ≡ Some c.in-Some.value = sym c.value_said.ensures ∙ c.in-Some.is in
    elim c.then-next-other.branch [
      | then-next-other-via-then-next-other w ↦
          one_says_more one other i c.loop-mark.place n c.mark-item.result c.in-Some.value at says c.loop-mark.invariant.same
          c.next_said-next.ensures.none (omega (arith, w.if-next-other.true))
      | then-next-other-via-else-next-other+then-not-says w ↦
          let there : slice_get other n ≡ Some w.index-other-next.result =
          slice_get_read other _ n w.index-other-next.result refl
          (omega (arith, c.next_said-next.ensures.within, w.if-next-other.false)) w.index-other-next.is in
          other_says_else one other i c.loop-mark.place n c.mark-item.result c.in-Some.value at says c.loop-mark.invariant.same
          c.next_said-next.ensures.none w.index-other-next.result there (c.next_said-next.ensures.stops w.index-other-next.result there)
          (w.says.ensures.other (search rules))
    ]

pub loop-mark-preserved : goal.loop-mark-preserved
loop-mark-preserved c =
    let one = c.args.one.now in
    let other = c.args.other.now in
    let i = c.loop-mark.mark-index in
    let at : slice_get one i ≡ Some c.mark-item.result =
    slice_get_read one _ i c.mark-item.result refl (omega arith) c.mark-item.is in
    elim c.match-value_said.branch [
      | in-Some+else-next-other+else-not-says w ↦
          let n = w.next_said-next.result in
          let low : n < length other = omega (arith, w.next_said-next.ensures.within, w.if-next-other.false) in
          let there : slice_get other n ≡ Some w.index-other-next.result =
          slice_get_read other _ n w.index-other-next.result refl low w.index-other-next.is in
          let says : value_said c.mark-item.result ≡ Some w.in-Some.value = sym c.value_said.ensures ∙ w.in-Some.is in
          record {
            within = omega (arith, low, w.place-is);
            same = both_say one other i c.loop-mark.place n c.mark-item.result w.in-Some.value at says c.loop-mark.invariant.same
                w.next_said-next.ensures.none w.index-other-next.result c.match-value_said.place there (w.says.ensures.same (search rules)) w.place-is;
          }
      | in_default w ↦
          record {
            within = omega (arith, c.loop-mark.invariant.within, w.place-is);
            same = silent_next one i c.mark-item.result at (sym c.value_said.ensures ∙ w.in_default.is) ∙ c.loop-mark.invariant.same ∙
                ap (λ j. said (take j other)) (sym w.place-is);
          }
    ]

pub returns-clause-other : goal.returns-clause-other
returns-clause-other c = λ is.
    let other = c.args.other.now in
    let n = c.next_said.result in
    let low : n < length other = grind (arith, is, c.next_said.ensures.within) in
    let there = slice_get-get_or other n Cut low in
    other_says_more c.args.one.now other c.loop-mark.mark-index c.loop-mark.place n _ _ c.loop-mark.invariant.same c.next_said.ensures.none
    (omega arith) there refl (c.next_said.ensures.stops _ there)
