-- Answers to programs whose outcomes and says are explored.
use Rattle.std.proofs.Common.{◌≡◌, ◌∙◌, ℕ, ◌<◌, ◌≤◌, Bool, true, List, length, ap, subst, arith}
use Rattle.std.specs.List.{All}
use Rattle.cell_registry.specs.declared.limits.Limits.{Limits}
use Rattle.derived_ops.specs.{Expansion.code_of, Reading.source_of}
use Rattle.effect_term.specs.declared.term.Term.{Term}
use Rattle.text_io.specs.declared.status.Status.{Status}
use Rattle.world_search.specs.declared.answers.Bounds.{Bounds}
use Rattle.every_outcome.proofs.Told.{all_at, all_from}
use Rattle.every_schedule.specs.declared.exploration.{Answer.Answer, Exploration.Exploration}
use Rattle.exploration_text.specs.{declared.wants.Want.Want, ExplorationText.{IsSpellable, exploration_status}, Missing.missing_of_exploration}
use Rattle.outcome_answers.specs.{OutcomeAnswers.{IsSaysAnswer, Shows}, SaysFound.IsSaysOf}

-- the schedules of the answers can be spelled
pub says_spellable : (found : Exploration) (most : ℕ) → most ≤ 1000000 → All (λ a. All (λ f. f < 1000) a.schedule) found.answers →
    All (λ a. length a.schedule ≤ most) found.answers → All IsSpellable found.answers
says_spellable found most bound numbers short = all_from IsSpellable found.answers (λ i a at.
    let low = all_at (λ (b : Answer). length b.schedule ≤ most) found.answers i a at short in
    record {
      numbers = all_at (λ (b : Answer). All (λ f. f < 1000) b.schedule) found.answers i a at numbers;
      few = omega arith;
    })

-- the answer, with the wants of the order
pub says_answered : (json : Bool) (t : Term) (limits : Limits) (bounds : Bounds) (timed : Bool) (wants ws : List Want) (note answer : List ℕ)
    (status : Status) (found : Exploration) → ws ≡ wants → IsSaysOf (code_of (source_of t)) limits bounds timed found →
    Shows json true ws found answer → status ≡ exploration_status ws found → note ≡ missing_of_exploration ws found →
    IsSaysAnswer json t limits bounds timed wants note answer status
says_answered json t limits bounds timed wants ws note answer status found same found_is shows status_is note_is = record {
  found = found;
  found_is = found_is;
  shows = subst (λ (l : List Want). Shows json true l found answer) same shows;
  status_is = status_is ∙ ap (λ l. exploration_status l found) same;
  note_is = note_is ∙ ap (λ l. missing_of_exploration l found) same;
}
