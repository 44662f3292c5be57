-- No answer on fair schedules has the status of wrong usage.
use Rattle.std.proofs.Common.{◌≢◌, ◌∙◌, Bool, true, false, ℕ, List, sym}
use Rattle.effect_term.specs.declared.term.Term.{Term}
use Rattle.text_io.specs.declared.status.Status.{Status}
use Rattle.text_io.specs.declared.status.Status.TheVariants as ends
use Rattle.exploration_text.specs.declared.explore_texts.ExploreOrder.{ExploreOrder}
use Rattle.exploration_text.specs.ExplorationText.{exploration_status, has_failure}
use Rattle.exploration_text.specs.Noting.{IsNotedAnswer}
use Rattle.ending_answers.proofs.Statuses.{ending_ends}
use Rattle.command_line.specs.Decidings.{decide_refuses, decides_as}
use Rattle.command_line.proofs.EndLemmas.{chosen_ends, json_refusal_ends, program_ends, refusal_ends}

decided_ends : (json : Bool) (order : ExploreOrder) (timed : Bool) (note : List ℕ) (t : Term) (answer : List ℕ) (status : Status) →
    decides_as json order timed note t answer status → status ≢ ends.Usage
decided_ends json order timed note t answer status h =
    let e = h.decided.exploration in
    λ u. ending_ends h.decided.ending (exploration_status order.wants.items e)
    (chosen_ends (has_failure order.wants.items e.answers) e.complete) (sym h.status_is ∙ u)

pub decide_ends : (json : Bool) (order : ExploreOrder) (timed : Bool) (note text answer : List ℕ) (status : Status) →
    IsNotedAnswer (decide_refuses json) (decides_as json order timed) note text answer status → status ≢ ends.Usage
decide_ends true order timed note text answer status =
    program_ends (λ text answer status h. json_refusal_ends h.0) (λ t answer status h. decided_ends true order timed note t answer status h)
decide_ends false order timed note text answer status =
    program_ends (λ text answer status h. refusal_ends h.0) (λ t answer status h. decided_ends false order timed note t answer status h)
