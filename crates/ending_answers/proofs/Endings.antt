-- Decisions on fair schedules, from the contract of a search.
use Rattle.std.proofs.Common.{◌≡◌, ◌⊎◌, ◌≤◌, ℕ, refl, sym, subst, arith, inl, inr}
use Rattle.cell_registry.specs.declared.limits.Limits.{Limits}
use Rattle.derived_ops.specs.Tree.{Tree}
use Rattle.fair_ends.specs.{declared.ending.{Cycle.Cycle, Ending.Ending}, Fair.IsFair}
use Rattle.every_schedule.specs.Fairness.{Ends, IsForever}
use Rattle.ending_answers.specs.Decisions.{IsEndingOf, IsShort}
use Rattle.fair_ends.specs.declared.ending.Ending.TheVariants as decided

pub ending_is : (code : Tree) (k : Limits) (e : Ending) →
    (e ≡ decided.Ends → (schedule : ℕ → ℕ) → IsFair 1000 schedule → Ends code k schedule) →
    ((c : Cycle) → e ≡ decided.Repeats c → IsForever code k c.stem.items c.cycle.items) → IsEndingOf code k e
ending_is code k decided.Ends ends repeats = ends refl
ending_is code k (decided.Repeats c) ends repeats = repeats c refl
ending_is code k decided.Undecided ends repeats = tt

-- the same ending, or an undecided one
pub ending_short : (code : Tree) (k : Limits) (e r : Ending) → (r ≡ e) ⊎ (r ≡ decided.Undecided) → IsEndingOf code k e → IsEndingOf code k r
ending_short code k e r (inl same) h = subst (IsEndingOf code k) (sym same) h
ending_short code k e r (inr same) h = subst (IsEndingOf code k) (sym same) tt

-- a short ending is short for a greater number of entries
pub short_more : (m n : ℕ) → m ≤ n → (e : Ending) → IsShort m e → IsShort n e
short_more m n more decided.Ends h = tt
short_more m n more (decided.Repeats c) h = record {
  stem = h.stem;
  cycle = h.cycle;
  stem_short = (let a = h.stem_short in omega arith);
  cycle_short = (let a = h.cycle_short in omega arith);
}
short_more m n more decided.Undecided h = tt
