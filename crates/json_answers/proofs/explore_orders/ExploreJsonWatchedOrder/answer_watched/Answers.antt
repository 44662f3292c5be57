use Rattle.std.proofs.Common.{◌∙◌, ap, subst}
use Rattle.serde_json.specs.View.{view}
use Rattle.exploration_text.specs.{ExplorationText.exploration_status, Missing.missing_of_exploration}
use Rattle.json_answers.{specs.ExplorationData.IsExplorationData, proofs.FoundPlain.exploration_plain}
use Rattle.json_answers.proofs.explore_orders.ExploreJsonWatchedOrder.answer_watched.Goals as goal

pub value_answer-requires : goal.value_answer-requires
value_answer-requires g c = exploration_plain _ _ _ c.in_ok-value.ensures

pub returns : goal.returns
returns g c =
    let e = c.in-Ok.exploration in
    let found = c.in-Ok.ensures in
    let wants = c.as_slice-wants.ensures.value in
    let value = view c.in_ok-value.value in
    record {
      explored = record {
        exploration = e;
        explored = record {
          all = found.all;
          each = found.each;
          once = found.once;
          stopped = found.stopped;
          halted = found.may;
          room = found.room;
          spare = found.spare;
          short = found.short;
        };
        value = value;
        value_is = subst (λ ws. IsExplorationData ws e value) wants c.in_ok-value.ensures;
        text_is = c.in_ok-value_answer.ensures.line;
        status_is = c.in_ok-value_answer.ensures.status ∙ c.exploration_status.ensures ∙ ap (λ ws. exploration_status ws e) wants;
      };
      note_is = c.in_ok-missing_of_exploration.ensures ∙ ap (λ ws. missing_of_exploration ws e) wants;
    }
