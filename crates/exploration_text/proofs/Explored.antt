-- Schedules of explorations that can be spelled.
use Rattle.std.{proofs.Common.{◌≤◌, ◌<◌, ℕ, List, length, arith}, specs.List.All}
use Rattle.every_schedule.specs.declared.exploration.Answer.{Answer as Found}
use Rattle.exploration_text.specs.ExplorationText.{IsSpellable}

-- the schedules of an exploration can be spelled
pub spellable : (answers : List Found) (most : ℕ) → most ≤ 1000000 → All (λ a. All (λ f. f < 1000) a.schedule) answers →
    All (λ a. length a.schedule ≤ most) answers → All IsSpellable answers
spellable answers most bound numbers short = λ k d low. record {
  numbers = numbers k d low;
  few = omega (arith, short k d low);
}
