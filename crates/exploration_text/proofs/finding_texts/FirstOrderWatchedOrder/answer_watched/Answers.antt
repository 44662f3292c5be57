use Rattle.std.proofs.Common.{◌∙◌, ap, inr, subst}
use Rattle.derived_ops.specs.{Expansion.code_of, Reading.source_of}
use Rattle.exploration_text.specs.{ExplorationText.{IsExplorationText, exploration_status}, Findings.IsFirst, Missing.missing_of_exploration}
use Rattle.exploration_text.proofs.finding_texts.FirstOrderWatchedOrder.answer_watched.Goals as goal

pub returns-in_ok-missing_of_exploration-in-Explored : goal.returns-in_ok-missing_of_exploration-in-Explored
returns-in_ok-missing_of_exploration-in-Explored g c =
    let order = c.args.self.now.order in
    let code = code_of (source_of c.args.program.now) in
    let e = c.in-Explored.exploration in
    let wants = c.as_slice-wants.ensures.value in
    let timed = g.V.Watcher.can_stop c.args.watcher.now in
    let first = subst (IsFirst code order.limits order.bounds timed order.wants.items) c.in-Explored.is c.in_ok-finding.ensures in
    inr record {
      unfound = record {
        explored = record {
          exploration = e;
          explored = first.0;
          text_is = subst (λ ws. IsExplorationText ws e c.in_ok-text_of_exploration-in-Explored.field-0.items) wants
              c.in_ok-text_of_exploration-in-Explored.ensures;
          status_is = c.exploration_status.ensures ∙ ap (λ ws. exploration_status ws e) wants;
        };
        none = first.1;
      };
      note_is = c.in_ok-missing_of_exploration-in-Explored.ensures ∙ ap (λ ws. missing_of_exploration ws e) wants;
    }
