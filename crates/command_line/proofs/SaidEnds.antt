-- No answer with says has the status of wrong usage.
use Rattle.std.proofs.Common.{◌≢◌, ◌∙◌, Bool, true, false, ℕ, List, sym}
use Rattle.effect_term.specs.declared.term.Term.{Term}
use Rattle.text_io.specs.declared.status.Status.{Status}
use Rattle.text_io.specs.declared.status.Status.TheVariants as ends
use Rattle.exploration_text.specs.declared.explore_texts.ExploreOrder.{ExploreOrder}
use Rattle.exploration_text.specs.ExplorationText.{has_failure}
use Rattle.exploration_text.specs.Noting.{IsNotedAnswer}
use Rattle.command_line.specs.Sayings.{say_refuses, says_as}
use Rattle.command_line.proofs.EndLemmas.{chosen_ends, json_refusal_ends, program_ends, refusal_ends}
use Rattle.command_line.proofs.NotedEnds.{drawn_ends}

said_ends : (json : Bool) (order : ExploreOrder) (timed : Bool) (note : List ℕ) (t : Term) (answer : List ℕ) (status : Status) →
    says_as json order timed note t answer status → status ≢ ends.Usage
said_ends json order timed note t answer status =
    drawn_ends (λ answer status h u. chosen_ends (has_failure order.wants.items h.found.answers) h.found.complete (sym h.status_is ∙ u))

pub say_ends : (json : Bool) (order : ExploreOrder) (timed : Bool) (note text answer : List ℕ) (status : Status) →
    IsNotedAnswer (say_refuses json) (says_as json order timed) note text answer status → status ≢ ends.Usage
say_ends true order timed note text answer status =
    program_ends (λ text answer status h. json_refusal_ends h.0) (λ t answer status h. said_ends true order timed note t answer status h)
say_ends false order timed note text answer status =
    program_ends (λ text answer status h. refusal_ends h.0) (λ t answer status h. said_ends false order timed note t answer status h)
