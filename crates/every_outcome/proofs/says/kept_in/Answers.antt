use Rattle.std.proofs.Common.{[], ◌∷◌, ◌++◌, ap, ◌∙◌}
use Rattle.fiber_frames.specs.declared.mark.Mark.{Mark}
use Rattle.every_outcome.specs.Places.{kept_marks, with_says}
use Rattle.every_outcome.proofs.Said.{kept_next}
use Rattle.every_outcome.proofs.says.kept_in.Goals as goal

pub loop-mark-preserved : goal.loop-mark-preserved
loop-mark-preserved c =
    let says = with_says c.args.search in
    let now = c.loop-mark.kept.items in
    kept_next says c.args.marks.now c.loop-mark.mark-index c.mark-item.result now c.add_kept.new.kept.items c.loop-mark-test.true
    (c.in_ok-add_kept.ensures ∙ ap (λ (m : Mark). now ++ kept_marks says (m ∷ [])) c.mark-item.is) c.loop-mark.invariant
