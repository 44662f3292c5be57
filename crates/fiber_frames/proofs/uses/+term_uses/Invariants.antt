use Rattle.fiber_frames.proofs.Prelude.{length, ◌-◌, ◌≡◌, ◌≤◌, ℕ, term_hits}
use Rattle.fiber_frames.proofs.uses.+term_uses.Given as goal

abbrev pub decreases-term_uses : goal.decreases-term_uses
decreases-term_uses l = length l.words.now - l.index

-- what is used so is used in the last part that is left
abbrev pub invariant-loop-place : goal.invariant-loop-place
invariant-loop-place l = record {
  after : l.index ≤ l.place;
  rest : (m : ℕ) → (j : ℕ) × (term_hits l.sought.what l.sought.number l.words l.env l.level l.index m ≡ term_hits l.sought.what l.sought.number l.words l.env l.level l.place j);
}

abbrev pub decreases-loop-place : goal.decreases-loop-place
decreases-loop-place l = length l.words - l.place
