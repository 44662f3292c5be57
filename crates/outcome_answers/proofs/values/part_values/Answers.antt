use Rattle.std.proofs.Common.{[], ◌∷◌, ◌∙◌, refl, ap, map, sym, arith}
use Rattle.serde_json.specs.{Data.Data, View.view}
use Rattle.exploration_text.{specs.ExplorationText.is_listed_so, proofs.Parts.{all_listed, listed, passed}}
use Rattle.json_answers.proofs.FoundValues.{one_more}
use Rattle.outcome_answers.specs.OutcomesData.{AreShownData, IsShownData}
use Rattle.outcome_answers.proofs.values.part_values.Goals as goal
use Rattle.outcome_answers.proofs.values.part_values.Goals.{then-is_listed_so+in_ok-value+in_ok-push, else-is_listed_so}

pub loop-answer-preserved : goal.loop-answer-preserved
loop-answer-preserved c = elim c.if-is_listed_so.branch [
  | then-is_listed_so+in_ok-value+in_ok-push w ↦
      listed (λ (d : Data). d ∷ []) (IsShownData c.args.says c.args.unwanted) (AreShownData c.args.says c.args.unwanted)
      (λ a rest p behind is h. (p, behind, refl, is, h))
      (is_listed_so c.args.unwanted c.args.wants.now) c.args.answers.now c.loop-answer.answer-index c.answer-item.result
      (map view c.loop-answer.values.items) (map view c.if-is_listed_so.values.items) (view w.in_ok-value.value) (omega arith) c.answer-item.is
      (sym c.is_listed_so.ensures ∙ w.if-is_listed_so.true) w.in_ok-value.ensures
      (one_more c.loop-answer.values.items c.if-is_listed_so.values.items w.in_ok-value.value (ap (λ v. v.items) w.values-is ∙ w.in_ok-push.ensures.items))
      c.loop-answer.invariant
  | else-is_listed_so w ↦
      passed (λ (d : Data). d ∷ []) (IsShownData c.args.says c.args.unwanted) (AreShownData c.args.says c.args.unwanted)
      (λ a rest p behind is h. (p, behind, refl, is, h))
      (is_listed_so c.args.unwanted c.args.wants.now) c.args.answers.now c.loop-answer.answer-index c.answer-item.result
      (map view c.loop-answer.values.items) (map view c.if-is_listed_so.values.items) (omega arith) c.answer-item.is
      (sym c.is_listed_so.ensures ∙ w.if-is_listed_so.false) (ap (λ v. map view v.items) w.values-is) c.loop-answer.invariant
]

pub returns : goal.returns
returns c =
    all_listed (AreShownData c.args.says c.args.unwanted) (is_listed_so c.args.unwanted c.args.wants.now) refl c.args.answers.now c.loop-answer.answer-index
    (map view c.loop-answer.values.items) (omega arith) c.loop-answer.invariant
