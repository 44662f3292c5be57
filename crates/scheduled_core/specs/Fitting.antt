-- A fiber's state agrees with what a registry has of it: in a registry for many threads, as a pass knows it, or in one
-- for one thread.
use Rattle.std.specs.Prelude.{◌≡◌, ℕ, ◌<◌, ◌≤◌, Bool, true, false, List, length, Some}
use Rattle.std.specs.List.{slice_get}
use Rattle.fiber_frames.specs.declared.ask.Look.{Look}
use Rattle.fiber_frames.specs.declared.ask.Look.TheVariants.{Due, Clear, Seen}
use Rattle.fiber_frames.specs.Fiber.{Fiber}
use Rattle.cell_registry.specs.declared.cell.Stage.{Stage}
use Rattle.cell_registry.specs.declared.cell.Stage.TheVariants as stage
use Rattle.cell_registry.specs.Cells.{Cells, cell_of, owned}
use Rattle.cell_registry.specs.Histories.{left}
use Rattle.cell_registry.specs.Passes.{PassView}
use Rattle.fiber_frames.specs.Leading.{Way, Runs_term, Finalizes, Has_ended, Is_lost, way_of, depth_of}
use Rattle.derived_ops.specs.Naming.{Given}
use Rattle.fiber_frames.specs.Naming.{NamedRun}
use Rattle.scheduled_core.specs.Core.{World}

-- what a registry has of a fiber, as its runner knows it: its number, how far it has come, the number of its active
-- masks and of its changes, whether its cancellation is known to be requested, and how many numbers were given
pub record Registered : Type 0 where
  pub number : ℕ
  pub stage : Stage
  pub depth : ℕ
  pub count : ℕ
  pub saw : Bool
  pub given : Given

-- the stage agrees with how far the fiber has come
abbrev pub StageFits : Way → Stage → Type 0
StageFits Runs_term g = g ≡ stage.Running
StageFits Finalizes g = g ≡ stage.Finalizing
StageFits (Has_ended o) g = g ≡ stage.Ended o
StageFits Is_lost g = ⊥

-- the depth is the number of active masks, until the fiber has ended
abbrev pub DepthFits : Way → ℕ → ℕ → Type 0
DepthFits Runs_term d e = e ≡ d
DepthFits Finalizes d e = e ≡ d
DepthFits (Has_ended o) d e = Unit {0}
DepthFits Is_lost d e = Unit {0}

-- a request that the fiber has seen is known
abbrev pub LookFits : Look → Bool → Type 0
LookFits Due saw = Unit {0}
LookFits Clear saw = Unit {0}
LookFits Seen saw = saw ≡ true

-- the fiber's state agrees with what is registered of it: its next mask number is at most the number of its changes, it
-- names only what was given, and it was started itself
pub record Fits (c : Registered) (g : Fiber) : Type 0 where
  pub number : g.number ≡ c.number
  pub stage : StageFits (way_of g.running) c.stage
  pub depth : DepthFits (way_of g.running) (depth_of g) c.depth
  pub look : LookFits g.look c.saw
  pub next : g.next ≤ c.count
  pub names : NamedRun c.given g.running
  pub born : c.number < c.given.fibers

-- how many numbers of each kind a registry has given
abbrev pub given_by : Cells → Given
given_by s = record { fibers = s.next_fiber; refs = s.next_ref; deferreds = s.next_deferred }

-- what a pass knows of its fiber
abbrev pub pass_registered : PassView → Registered
pass_registered p = record {
  number = p.number;
  stage = p.stage;
  depth = p.depth;
  count = p.count;
  saw = p.saw;
  given = given_by (left p.registry.limits p.seen);
}

-- what is registered of a new fiber
abbrev pub new_registered : ℕ → Given → Registered
new_registered i b = record { number = i; stage = stage.Running; depth = 0; count = 0; saw = false; given = b }

-- what a registry for one thread has of fiber i
abbrev pub cell_registered : Cells → ℕ → Registered
cell_registered s i =
    let c = cell_of s i in
    record { number = i; stage = c.stage; depth = c.depth; count = c.count; saw = c.request; given = given_by s }

-- the world of these fibers and cells
abbrev pub world_of : List Fiber → Cells → World
world_of fibers cells = record { fibers = fibers; cells = cells }

-- each started fiber agrees with its cell, and the owner's part of every other cell is fresh
pub record AllFit (w : World) : Type 0 where
  pub many : length w.fibers ≡ w.cells.next_fiber
  pub each : (f : ℕ) (g : Fiber) → slice_get w.fibers f ≡ Some g → Fits (cell_registered w.cells f) g
  pub unborn : (f : ℕ) → w.cells.next_fiber ≤ f → owned (cell_of w.cells f) ≡ (stage.Running, 0, 0)
