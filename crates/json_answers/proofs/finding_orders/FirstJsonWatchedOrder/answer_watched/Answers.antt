use Rattle.std.proofs.Common.{◌∙◌, ap, inr, subst}
use Rattle.derived_ops.specs.{Expansion.code_of, Reading.source_of}
use Rattle.serde_json.specs.View.{view}
use Rattle.exploration_text.specs.{ExplorationText.exploration_status, Findings.IsFirst, Missing.missing_of_exploration}
use Rattle.json_answers.{specs.ExplorationData.IsExplorationData, proofs.{FindingLemmas.finding_plain, FoundPlain.exploration_plain}}
use Rattle.json_answers.proofs.finding_orders.FirstJsonWatchedOrder.answer_watched.Goals as goal

pub value_answer-requires : goal.value_answer-requires
value_answer-requires g c = finding_plain _ _ c.in_ok-value-in-Found.ensures

pub value_answer-requires-in-Explored : goal.value_answer-requires-in-Explored
value_answer-requires-in-Explored g c = exploration_plain _ _ _ c.in_ok-value-in-Explored.ensures

pub returns-in_ok-missing_of_exploration-in-Explored : goal.returns-in_ok-missing_of_exploration-in-Explored
returns-in_ok-missing_of_exploration-in-Explored g c =
    let order = c.args.self.now.order in
    let code = code_of (source_of c.args.program.now) in
    let e = c.in-Explored.exploration in
    let wants = c.as_slice-wants.ensures.value in
    let timed = g.V.Watcher.can_stop c.args.watcher.now in
    let value = view c.in_ok-value-in-Explored.value in
    let first = subst (IsFirst code order.limits order.bounds timed order.wants.items) c.in-Explored.is c.in_ok-finding.ensures in
    inr record {
      unfound = record {
        explored = record {
          exploration = e;
          explored = first.0;
          value = value;
          value_is = subst (λ ws. IsExplorationData ws e value) wants c.in_ok-value-in-Explored.ensures;
          text_is = c.in_ok-value_answer-in-Explored.ensures.line;
          status_is = c.in_ok-value_answer-in-Explored.ensures.status ∙ c.exploration_status-status.ensures ∙ ap (λ ws. exploration_status ws e) wants;
        };
        none = first.1;
      };
      note_is = c.in_ok-missing_of_exploration-in-Explored.ensures ∙ ap (λ ws. missing_of_exploration ws e) wants;
    }
