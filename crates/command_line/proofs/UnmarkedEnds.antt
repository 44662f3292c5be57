-- No answer without marks has the status of wrong usage.
use Rattle.std.proofs.Common.{◌≢◌, ◌∙◌, Bool, true, false, ℕ, List, sym}
use Rattle.effect_term.specs.declared.term.Term.{Term}
use Rattle.text_io.specs.declared.status.Status.{Status}
use Rattle.text_io.specs.declared.status.Status.TheVariants as ends
use Rattle.exploration_text.specs.declared.explore_texts.ExploreOrder.{ExploreOrder}
use Rattle.exploration_text.specs.ExplorationText.{has_failure}
use Rattle.exploration_text.specs.Noting.{IsNotedAnswer}
use Rattle.command_line.specs.Unmarkings.{unmark_refuses, unmarks_as}
use Rattle.command_line.proofs.EndLemmas.{chosen_ends, json_refusal_ends, program_ends, refusal_ends}
use Rattle.command_line.proofs.NotedEnds.{drawn_ends}

unmarked_ends : (json only_first : Bool) (order : ExploreOrder) (timed : Bool) (note : List ℕ) (t : Term) (answer : List ℕ) (status : Status) →
    unmarks_as json only_first order timed note t answer status → status ≢ ends.Usage
unmarked_ends json only_first order timed note t answer status =
    drawn_ends (λ answer status h u. chosen_ends (has_failure order.wants.items h.shown.answers) h.shown.complete (sym h.status_is ∙ u))

pub unmark_ends : (json only_first : Bool) (order : ExploreOrder) (timed : Bool) (note text answer : List ℕ) (status : Status) →
    IsNotedAnswer (unmark_refuses json) (unmarks_as json only_first order timed) note text answer status → status ≢ ends.Usage
unmark_ends true only_first order timed note text answer status =
    program_ends (λ text answer status h. json_refusal_ends h.0) (λ t answer status h. unmarked_ends true only_first order timed note t answer status h)
unmark_ends false only_first order timed note text answer status =
    program_ends (λ text answer status h. refusal_ends h.0) (λ t answer status h. unmarked_ends false only_first order timed note t answer status h)
