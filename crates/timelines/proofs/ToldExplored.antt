-- Answers of an exploration, with timelines.
use Rattle.std.proofs.Common.{◌≡◌, ℕ, Bool, List, ◌∷◌, ◌++◌}
use Rattle.every_schedule.specs.declared.exploration.Answer.{Answer as Found}
use Rattle.exploration_text.specs.ExplorationText.{IsAnswerText}
use Rattle.timelines.specs.ExploreTimelines.{IsToldText}

pub told_text : (u : Bool) (a : Found) (front rows text : List ℕ) → IsAnswerText u a front → text ≡ front ++ 10 ∷ rows →
    IsToldText u a text
told_text u a front rows text is behind = record { front = front; timeline = rows; text_is = behind; answer_is = is }
