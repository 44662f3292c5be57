-- What a bay names, and what its slots can hold.
use Rattle.std.specs.Prelude.{◌≡◌, ◌<◌, ℕ, Option, Some, None}
use Rattle.derived_ops.specs.Tree.{Tree}
use Rattle.cell_registry.specs.Passes.{RegistryView}
use Rattle.fiber_poll.specs.Tasks.{IsTaskOf, TaskView}
use denote.Bor.{Bor}

-- a registry, the code of a program, and the number of moves of its fiber 0
pub record Named : Type 0 where
  pub home : RegistryView
  pub code : Tree
  pub most : ℕ

-- what references to a registry and a code, and a number of moves, name, if there are any
abbrev pub named_of : Option (Bor RegistryView × Bor Tree × ℕ) → Option Named
named_of None = None
named_of (Some r) = Some record { home = r.0.now; code = r.1.now; most = r.2 }

-- the task belongs to the named registry and the named code, within these moves, if any are named
abbrev pub IsNamed : Option Named → TaskView → Type 0
IsNamed None t = Unit {0}
IsNamed (Some n) t = IsTaskOf n.home n.code n.most t

-- what the slot of the fiber f can hold: nothing, or that fiber's task, which belongs to what is named
abbrev pub MayLie : Option Named → ℕ → Option TaskView → Type 0
MayLie named f None = Unit {0}
MayLie named f (Some t) = (t.state.number ≡ f) × IsNamed named t

-- the number of the first task's fiber is below that of the second's
abbrev pub ComesBefore : TaskView → TaskView → Type 0
ComesBefore t u = t.state.number < u.state.number
