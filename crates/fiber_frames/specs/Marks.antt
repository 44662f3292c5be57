-- What the marks of a fiber say about its brackets, its masks and its cut.
use Rattle.std.specs.Prelude.{◌≡◌, ◌⊎◌, ◌↔◌, ◌≤◌, ℕ, ◌+◌, nat_eq, if◌then◌else◌, List, [], ◌∷◌, ◌++◌, Option, Some}
use Rattle.std.specs.Prelude.{None}
use Rattle.effect_term.specs.declared.reply.Outcome.{Outcome}
use Rattle.effect_term.specs.declared.reply.Outcome.TheVariants as outcome
use Rattle.fiber_frames.specs.declared.mark.Mark.{Mark}
use Rattle.fiber_frames.specs.declared.mark.Mark.TheVariants as mark

-- ---- brackets
-- the bracket with the number of its mask has acquired, begins its release, or has released
pub data Bracket_step : Type 0 where
  Acquired : ℕ → Bracket_step
  Releasing : ℕ → Bracket_step
  Released : ℕ → Bracket_step

-- of the marks, only `acquired`, `releasing` and `released`
abbrev pub bracket_steps : List Mark → List Bracket_step
bracket_steps [] = []
bracket_steps (mark.Acquired i ∷ ms) = Acquired i ∷ bracket_steps ms
bracket_steps (mark.Releasing i ∷ ms) = Releasing i ∷ bracket_steps ms
bracket_steps (mark.Released i ∷ ms) = Released i ∷ bracket_steps ms
bracket_steps (_ ∷ ms) = bracket_steps ms

-- B ::= empty | B B | acquired i B releasing i B released i
pub data Nested : List Bracket_step → Type 0 where
  empty : Nested []
  two : {a b : List Bracket_step} → Nested a → Nested b → Nested (a ++ b)
  bracket : {a b : List Bracket_step} → (i : ℕ) → Nested a → Nested b →
      Nested (Acquired i ∷ (a ++ Releasing i ∷ (b ++ Released i ∷ [])))

-- the number of times that i is acquired
abbrev pub times_acquired : ℕ → List Bracket_step → ℕ
times_acquired i [] = 0
times_acquired i (Acquired j ∷ w) = (if nat_eq j i then 1 else 0) + times_acquired i w
times_acquired i (Releasing j ∷ w) = times_acquired i w
times_acquired i (Released j ∷ w) = times_acquired i w

-- *balanced*: each bracket that has acquired releases once, the innermost first, and no number is acquired twice
abbrev pub IsBalanced : List Bracket_step → Type 0
IsBalanced w = Nested w × ((i : ℕ) → times_acquired i w ≤ 1)

-- *open-balanced*: the beginning of a balanced word
abbrev pub IsOpenBalanced : List Bracket_step → Type 0
IsOpenBalanced w = (rest : List Bracket_step) × IsBalanced (w ++ rest)

-- ---- masks and the cut
abbrev pub Has : Mark → List Mark → Type 0
Has x [] = ⊥
Has x (y ∷ ys) = (y ≡ x) ⊎ Has x ys

abbrev pub NoCut : List Mark → Type 0
NoCut ms = Has mark.Cut ms → ⊥

-- an `in` of m with no `out` of m after it
abbrev pub IsPolled : ℕ → List Mark → Type 0
IsPolled m ms = (before after : List Mark) × (ms ≡ before ++ mark.PollIn m ∷ after) × (Has (mark.PollOut m) after → ⊥)

-- at most one cut, at which each mask that was entered and not left is polled
abbrev pub IsCutOnce : List Mark → Type 0
IsCutOnce ms =
    (before after : List Mark) × (ms ≡ before ++ mark.Cut ∷ after) × NoCut before × NoCut after
    × ((m : ℕ) → Has (mark.Enter m) before → (Has (mark.Leave m) before → ⊥) → IsPolled m before)

-- *uncut regions*: no masked region is cut outside its own poll
abbrev pub UncutRegions : List Mark → Type 0
UncutRegions ms = NoCut ms ⊎ IsCutOnce ms

-- an ended fiber's brackets are balanced, and its outcome is canceled exactly if it was cut
abbrev pub EndsLawfully : List Mark → Option Outcome → Type 0
EndsLawfully ms None = Unit {0}
EndsLawfully ms (Some o) = IsBalanced (bracket_steps ms) × (o ≡ outcome.Canceled ↔ Has mark.Cut ms)

-- the marks of a fiber, and its outcome if it has ended
pub record AreLawful (marks : List Mark) (ended : Option Outcome) : Type 0 where
  pub brackets : IsOpenBalanced (bracket_steps marks)
  pub regions : UncutRegions marks
  pub end : EndsLawfully marks ended
