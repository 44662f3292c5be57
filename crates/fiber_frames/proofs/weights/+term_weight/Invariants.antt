use Rattle.fiber_frames.proofs.Prelude.{length, min, ◌+◌, ◌-◌, ◌*◌, ◌≡◌, ◌≤◌, ℕ}
use Rattle.fiber_frames.specs.Weights.{term_weight}
use Rattle.fiber_frames.proofs.weights.+term_weight.Given as goal

abbrev pub decreases-term_weight : goal.decreases-term_weight
decreases-term_weight l = length l.words.now - l.index

-- the weight is the sum so far, and that of the last part that is left as often as it counts
abbrev pub invariant-loop-place : goal.invariant-loop-place
invariant-loop-place l = record {
  after : l.index ≤ l.place;
  rest : (m : ℕ) → (j : ℕ) × (min (term_weight l.words l.env l.level l.index m) 18446744073709551615 ≡
      min (l.sum + l.times * term_weight l.words l.env l.level l.place j) 18446744073709551615);
}

abbrev pub decreases-loop-place : goal.decreases-loop-place
decreases-loop-place l = length l.words - l.place
