-- A turn keeps what the bay's rule asks of a task, and so does a start of its child.
use Rattle.std.proofs.Common.{◌≡◌, ◌⊎◌, ℕ, List, All, subst, Option, Some, None, Result, Ok, Err, IfErr, IfOk, inl, inr, refl}
use Rattle.cell_registry.specs.declared.limits.RunError.{RunError}
use Rattle.cell_registry.specs.declared.limits.RunError.TheVariants as run
use Rattle.derived_ops.specs.Tree.{Tree}
use Rattle.cell_registry.specs.Passes.{RegistryView}
use Rattle.fiber_poll.specs.declared.turn.Turn.{Turn}
use Rattle.fiber_poll.specs.declared.turn.Turn.TheVariants as turn
use Rattle.fiber_poll.specs.Tasks.{IsTaskOf, TaskView}
use Rattle.fiber_poll.specs.Turning.{ChildIsOf, StaysOf}
use Rattle.wait_bay.specs.Names.{Named, IsNamed}
use Rattle.steal_pool.specs.Runs.{ChildIsNamed}

turn_named : (named : Option Named) (a b : TaskView) (t : Turn) →
    ((home : RegistryView) (code : Tree) (most : ℕ) → IsTaskOf home code most a → StaysOf home code most (Ok t) b) → IsNamed named a → IsNamed named b
turn_named None a b t stays is = tt
turn_named (Some n) a b t stays is = (stays n.home n.code n.most is).0

of_named : (n : Named) (t : Turn) → ChildIsOf n.home n.code n.most t → ChildIsNamed (Some n) t
of_named n (turn.Started c) is = is
of_named n (turn.Ended o) is = tt
of_named n (turn.Waits o) is = tt
of_named n turn.Cedes is = tt
of_named n (turn.WakeFiber o) is = tt
of_named n (turn.WakeTopic o) is = tt
of_named n turn.OutOfMoves is = tt

none_named : (t : Turn) → ChildIsNamed None t
none_named (turn.Started c) = tt
none_named (turn.Ended o) = tt
none_named (turn.Waits o) = tt
none_named turn.Cedes = tt
none_named (turn.WakeFiber o) = tt
none_named (turn.WakeTopic o) = tt
none_named turn.OutOfMoves = tt

child_named : (named : Option Named) (a b : TaskView) (t : Turn) →
    ((home : RegistryView) (code : Tree) (most : ℕ) → IsTaskOf home code most a → StaysOf home code most (Ok t) b) → IsNamed named a → ChildIsNamed named t
child_named None a b t stays is = none_named t
child_named (Some n) a b t stays is = of_named n t (stays n.home n.code n.most is).1

pub result_named : (named : Option Named) (a b : TaskView) (r : Result Turn RunError) →
    ((home : RegistryView) (code : Tree) (most : ℕ) → IsTaskOf home code most a → StaysOf home code most r b) → IsNamed named a → IfOk r (λ _. IsNamed named b)
result_named named a b (Ok t) stays is = turn_named named a b t stays is
result_named named a b (Err e) stays is = tt

pub result_child : (named : Option Named) (a b : TaskView) (r : Result Turn RunError) →
    ((home : RegistryView) (code : Tree) (most : ℕ) → IsTaskOf home code most a → StaysOf home code most r b) → IsNamed named a → IfOk r (ChildIsNamed named)
result_child named a b (Ok t) stays is = child_named named a b t stays is
result_child named a b (Err e) stays is = tt

-- unless memory was refused, a turn that met a fault keeps it, too
kept_or_none : (named : Option Named) (a b : TaskView) (e : RunError) →
    ((home : RegistryView) (code : Tree) (most : ℕ) → IsTaskOf home code most a → StaysOf home code most (Err e) b) → IsNamed named a →
    (e ≡ run.NoMemory) ⊎ IsNamed named b
kept_or_none None a b e stays is = inr tt
kept_or_none (Some n) a b (run.Full band k) stays is = inr (stays n.home n.code n.most is)
kept_or_none (Some n) a b (run.Spent f) stays is = inr (stays n.home n.code n.most is)
kept_or_none (Some n) a b run.NoMemory stays is = inl refl
kept_or_none (Some n) a b (run.Lost f) stays is = inr (stays n.home n.code n.most is)
kept_or_none (Some n) a b run.NoWorker stays is = inr (stays n.home n.code n.most is)

pub result_kept : (named : Option Named) (a b : TaskView) (r : Result Turn RunError) →
    ((home : RegistryView) (code : Tree) (most : ℕ) → IsTaskOf home code most a → StaysOf home code most r b) → IsNamed named a →
    IfErr r (λ e. (e ≡ run.NoMemory) ⊎ IsNamed named b)
result_kept named a b (Ok t) stays is = tt
result_kept named a b (Err e) stays is = kept_or_none named a b e stays is

-- tasks of what is named are of this registry and this code, within these moves
pub all_named : (n : Named) (named : Option Named) (tasks : List TaskView) → named ≡ Some n → All (IsNamed named) tasks →
    All (IsTaskOf n.home n.code n.most) tasks
all_named n named tasks is all = λ k d less. (subst (λ (o : Option Named). All (IsNamed o) tasks) is all) k d less
