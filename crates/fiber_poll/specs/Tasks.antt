-- What contracts see of a task, and what moves make of it.
use Rattle.std.specs.Prelude.{◌≡◌, ◌⊎◌, ℕ, ◌+◌, List, ◌++◌, length}
use mathlib.Core.List.{IsPrefix}
use Rattle.effect_term.specs.declared.reply.Reply.{Reply}
use Rattle.derived_ops.specs.Tree.{Tree}
use Rattle.fiber_frames.specs.Fiber.{Fiber}
use Rattle.cell_registry.specs.Histories.{calls_by}
use Rattle.cell_registry.specs.Rule.{Has}
use Rattle.cell_registry.specs.Passes.{PassView, RegistryView, IsOf, IsPass}
use Rattle.fiber_frames.specs.Leading.{Is_lost, way_of}
use Rattle.scheduled_core.specs.Fitting.{Fits, pass_registered}
use Rattle.scheduled_core.specs.Stands.{Stands}
use Rattle.fiber_poll.specs.Turns.{AreAnswers, calls_of, moves}

-- a task: its registry, its pass, its fiber's state, and the number of moves left
pub record TaskView : Type 0 where
  pub home : RegistryView
  pub pass : PassView
  pub state : Fiber
  pub moves : ℕ

-- the fiber lacked memory in a move
abbrev pub IsBroken : Fiber → Type 0
IsBroken g = way_of g.running ≡ Is_lost

-- what holds of every task: its pass is a lawful one of its registry and of its fiber, and agrees with the fiber's
-- state, unless the fiber is broken
pub record IsTask (t : TaskView) : Type 0 where
  pub here : IsOf t.home t.pass
  pub pass : IsPass t.pass
  pub number : t.state.number ≡ t.pass.number
  pub fits : IsBroken t.state ⊎ Fits (pass_registered t.pass) t.state

-- Moves with these replies lead from the task old to new, and each took one of the moves left. What the pass of new has
-- seen begins with what the pass of old had seen. Its further calls by its own fiber are those of the moves, with their
-- replies, and it has no further calls by its other fibers
pub record Went (old : TaskView) (rs : List Reply) (new : TaskView) : Type 0 where
  pub home : new.home ≡ old.home
  pub number : new.pass.number ≡ old.pass.number
  pub fibers : new.pass.fibers ≡ old.pass.fibers
  pub state : new.state ≡ moves old.state rs
  pub left : new.moves + length rs ≡ old.moves
  pub answers : AreAnswers old.state rs
  pub seen : IsPrefix old.pass.seen new.pass.seen
  pub own : calls_by old.pass.number new.pass.seen ≡ calls_by old.pass.number old.pass.seen ++ calls_of old.state rs
  pub others : (f : ℕ) → Has old.pass.fibers f → (f ≡ old.pass.number → ⊥) → calls_by f new.pass.seen ≡ calls_by f
      old.pass.seen

-- The task's pass belongs to this registry. Moves of this code lead its fiber to its state, with this number of moves
-- left, under the history that its pass has seen. Fiber 0 can make `most` moves, and each other fiber as many as its
-- parent had left
pub record IsTaskOf (r : RegistryView) (code : Tree) (most : ℕ) (t : TaskView) : Type 0 where
  pub home : t.home ≡ r
  pub stands : Stands code most t.pass.seen t.pass.number t.state t.moves
