use Rattle.std.proofs.Common.{ℕ, List, ◌++◌, ◌∙◌, refl, ap, sym, arith}
use Rattle.exploration_text.{specs.ExplorationText.is_listed_so, proofs.Parts.{all_listed, listed, passed}}
use Rattle.timelines.specs.ExploreTimelines.{AreToldTexts, IsToldText}
use Rattle.timelines.proofs.explore_timelines.told_part.Goals as goal
use Rattle.timelines.proofs.explore_timelines.told_part.Goals.{then-is_listed_so+in_ok-part+in_ok-extend_from_slice, else-is_listed_so}

pub loop-answer-preserved : goal.loop-answer-preserved
loop-answer-preserved c = elim c.if-is_listed_so.branch [
  | then-is_listed_so+in_ok-part+in_ok-extend_from_slice w ↦
      listed (λ (t : List ℕ). t) (IsToldText c.args.unwanted) (AreToldTexts c.args.unwanted) (λ a rest p behind is h. (p, behind, refl, is, h))
      (is_listed_so c.args.unwanted c.args.wants.now) c.args.answers.now c.loop-answer.answer-index c.answer-item.result c.loop-answer.text.items
      c.if-is_listed_so.text.items w.in_ok-part.part.items (omega arith) c.answer-item.is
      (sym c.is_listed_so.ensures ∙ w.if-is_listed_so.true) w.in_ok-part.ensures
      (ap (λ v. v.items) w.text-is ∙ w.in_ok-extend_from_slice.ensures.items ∙ ap (λ t. c.loop-answer.text.items ++ t) w.as_slice.ensures.value)
      c.loop-answer.invariant
  | else-is_listed_so w ↦
      passed (λ (t : List ℕ). t) (IsToldText c.args.unwanted) (AreToldTexts c.args.unwanted) (λ a rest p behind is h. (p, behind, refl, is, h))
      (is_listed_so c.args.unwanted c.args.wants.now) c.args.answers.now c.loop-answer.answer-index c.answer-item.result c.loop-answer.text.items
      c.if-is_listed_so.text.items (omega arith) c.answer-item.is
      (sym c.is_listed_so.ensures ∙ w.if-is_listed_so.false) (ap (λ v. v.items) w.text-is) c.loop-answer.invariant
]

pub returns : goal.returns
returns c =
    all_listed (AreToldTexts c.args.unwanted) (is_listed_so c.args.unwanted c.args.wants.now) refl c.args.answers.now c.loop-answer.answer-index
    c.loop-answer.text.items (omega arith) c.loop-answer.invariant
