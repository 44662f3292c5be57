use Rattle.std.proofs.Common.{◌∙◌, ap, subst}
use Rattle.exploration_text.specs.{ExplorationText.exploration_status, Missing.missing_of_exploration}
use Rattle.timelines.specs.ExploreTimelines.{IsToldExploration}
use Rattle.timelines.proofs.explore_timelines.ExploreTimelineOrderWatchedOrder.answer_watched.Goals as goal

pub returns : goal.returns
returns g c =
    let e = c.in-Ok.exploration in
    let found = c.in-Ok.ensures in
    let wants = c.as_slice-wants.ensures.value in
    record {
      told = record {
        exploration = e;
        explored = record {
          all = found.all;
          each = found.each;
          once = found.once;
          stopped = found.stopped;
          halted = found.may;
          room = found.room;
          spare = found.spare;
          short = found.short;
        };
        text_is = subst (λ ws. IsToldExploration ws e c.in_ok-told_exploration.field-0.items) wants c.in_ok-told_exploration.ensures;
        status_is = c.exploration_status.ensures ∙ ap (λ ws. exploration_status ws e) wants;
      };
      note_is = c.in_ok-missing_of_exploration.ensures ∙ ap (λ ws. missing_of_exploration ws e) wants;
    }
