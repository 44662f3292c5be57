-- What the answers of an exploration show of a program under every schedule.
use Rattle.std.specs.Prelude.{◌≡◌, ◌≢◌, ℕ, ◌+◌, ◌<◌, ◌≤◌, List, [], ◌∷◌, length, Some, Result, Ok, Err, IfOk}
use Rattle.std.specs.List.{All, fold, slice_get}
use Rattle.derived_ops.specs.Tree.{Tree}
use Rattle.fiber_frames.specs.Fiber.{Fiber, ask_of}
use Rattle.fiber_frames.specs.Marks.{AreLawful}
use Rattle.cell_registry.specs.declared.limits.Limits.{Limits}
use Rattle.cell_registry.specs.declared.limits.RunError.{RunError}
use Rattle.effect_term.specs.declared.reply.Outcome.{Outcome}
use Rattle.scheduled_core.specs.declared.report.FiberReport.{FiberReport}
use Rattle.scheduled_core.specs.declared.report.Report.{Report}
use Rattle.scheduled_core.specs.declared.wish.Wish.TheVariants.{Nothing}
use Rattle.scheduled_core.specs.Core.{World, core, entered, first_world, reported, wish_of}
use Rattle.scheduled_core.specs.Covers.{IsAccounted, IsAmong}
use Rattle.scheduled_core.specs.Finals.{HasEnded, IsSettled}
use Rattle.every_schedule.specs.declared.exploration.Answer.{Answer}

-- one of the answers has this end
abbrev pub IsListed : List Answer → Result Report RunError → Type 0
IsListed answers end = IsAmong (λ (a : Answer). a.end) answers end

-- what a schedule has led to is listed, if it is the report of a settled world or a fault
abbrev pub IsCovered : Limits → List Answer → Result World RunError → Type 0
IsCovered k answers x = IsAccounted (λ (a : Answer). a.end) k answers x

-- a schedule has led to a settled world whose report is listed, or to a fault that is listed
abbrev pub IsAnswered : Limits → List Answer → Result World RunError → Type 0
IsAnswered k answers (Ok w) = IsSettled k w × IsListed answers (reported (Ok w))
IsAnswered k answers (Err e) = IsListed answers (Err e)

-- the schedule of an answer leads to its end, and to a settled world if the end is a report
pub record IsReached (code : Tree) (k : Limits) (a : Answer) : Type 0 where
  pub reached : reported (core code k a.schedule) ≡ a.end
  pub settled : IfOk (core code k a.schedule) (IsSettled k)

-- the fiber of this number is born and has a next move: it hasn't ended
abbrev pub HasMove : World → ℕ → Type 0
HasMove w f = (g : Fiber) × (slice_get w.fibers f ≡ Some g) × (wish_of (ask_of g) ≢ Nothing)

-- each entry of the schedule, from this world on, is of a fiber that has a next move where the entry is made
abbrev pub AreMoves : Limits → World → List ℕ → Type 0
AreMoves k w [] = Unit {0}
AreMoves k w (f ∷ s) = HasMove w f × ((v : World) → entered k (Ok w) f ≡ Ok v → AreMoves k v s)

-- a schedule of more than `most` entries, each of a fiber that has a next move, leads to the report of a settled world,
-- or to a fault, that isn't listed
pub record IsPastBound (code : Tree) (k : Limits) (most : ℕ) (answers : List Answer) : Type 0 where
  pub schedule : List ℕ
  pub moves : AreMoves k (first_world code k) schedule
  pub long : most < length schedule
  pub settled : IfOk (core code k schedule) (IsSettled k)
  pub unlisted : IsListed answers (reported (core code k schedule)) → ⊥

-- the marks of each fiber in the answer's report are lawful
abbrev pub HasLawfulMarks : Answer → Type 0
HasLawfulMarks a = IfOk a.end (λ r. All (λ f. AreLawful f.marks f.outcome) r.fibers)

-- no two answers have the same end: each report and each fault is listed once
abbrev pub ListOnce : List Answer → Type 0
ListOnce answers = (i j : ℕ) (a b : Answer) → i < j → slice_get answers i ≡ Some a → slice_get answers j ≡ Some b →
    a.end ≢ b.end

-- no answer is a fault
abbrev pub HasNoFault : List Answer → Type 0
HasNoFault answers = (e : RunError) → IsListed answers (Err e) → ⊥

-- all answers have this end
abbrev pub EndAlike : List Answer → Result Report RunError → Type 0
EndAlike answers end = (i : ℕ) (a : Answer) → slice_get answers i ≡ Some a → a.end ≡ end

-- the end is a report, in which the fiber of this number has an outcome
abbrev pub HasOutcome : ℕ → Result Report RunError → Type 0
HasOutcome f (Ok r) = (g : FiberReport) × (o : Outcome) × (slice_get r.fibers f ≡ Some g) × (g.outcome ≡ Some o)
HasOutcome f (Err e) = ⊥

-- the end is a report, in which each fiber has an outcome
abbrev pub AllHaveEnded : Result Report RunError → Type 0
AllHaveEnded (Ok r) = (f : ℕ) (g : FiberReport) → slice_get r.fibers f ≡ Some g → (o : Outcome) × (g.outcome ≡ Some o)
AllHaveEnded (Err e) = ⊥

-- the fiber of this number is born, and never ends, whatever entries follow: it waits or loops for ever
pub record NeverEnds (k : Limits) (w : World) (f : ℕ) : Type 0 where
  pub fiber : Fiber
  pub here : slice_get w.fibers f ≡ Some fiber
  pub never : (entries : List ℕ) (v : World) (g : Fiber) → fold (entered k) (Ok w) entries ≡ Ok v →
      slice_get v.fibers f ≡ Some g → HasEnded g → ⊥

-- an answer with the first end and m entries can precede one with the second end and n entries: a report precedes each
-- fault, and of two reports, or two faults, the first has at most as many entries
abbrev pub MayPrecede : Result Report RunError → (m n : ℕ) → Result Report RunError → Type 0
MayPrecede (Ok r) m n (Ok s) = m ≤ n
MayPrecede (Ok r) m n (Err e) = Unit {0}
MayPrecede (Err d) m n (Ok s) = ⊥
MayPrecede (Err d) m n (Err e) = m ≤ n

-- reports precede faults, and in each group shorter schedules come first: each answer can precede the next one
abbrev pub AreInOrder : List Answer → Type 0
AreInOrder answers = (i : ℕ) (a b : Answer) → slice_get answers i ≡ Some a → slice_get answers (i + 1) ≡ Some b →
    MayPrecede a.end (length a.schedule) (length b.schedule) b.end
