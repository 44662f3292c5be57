use Rattle.std.proofs.Common.{◌≡◌, ◌≢◌, ℕ, Option, Some, None, Result, Ok, Err, IfOk, IfSome, refl, subst}
use Rattle.cell_registry.specs.declared.limits.RunError.{RunError}
use Rattle.cell_registry.specs.declared.limits.RunError.TheVariants as run
use Rattle.cell_registry.specs.Passes.{RegistryView}
use Rattle.derived_ops.specs.Tree.{Tree}
use Rattle.fiber_poll.specs.declared.turn.Turn.{Turn}
use Rattle.fiber_poll.specs.declared.turn.Turn.TheVariants as turn
use Rattle.fiber_poll.specs.Tasks.{IsTaskOf, TaskView}
use Rattle.fiber_poll.specs.Turning.{StaysOf}
use Rattle.task_tests.proofs.turning.turned.Goals as goal

module _ (home : RegistryView) (code : Tree) (most : ℕ) (new : TaskView) where
  own_of : {A E : Type 0} (r : Result Turn RunError) (it : Result A E) → StaysOf home code most r new
      → IfOk it (λ _. r ≢ Err run.NoMemory) → IfOk it (λ _. IsTaskOf home code most new)
  own_of r (Err e) stays ok = tt
  own_of (Ok t) (Ok it) stays ok = stays.0
  own_of (Err (run.Full b n)) (Ok it) stays ok = stays
  own_of (Err (run.Spent f)) (Ok it) stays ok = stays
  own_of (Err (run.Lost f)) (Ok it) stays ok = stays
  own_of (Err run.NoWorker) (Ok it) stays ok = stays
  own_of (Err run.NoMemory) (Ok it) stays ok = absurd (ok refl)

  started : (r : Result Turn RunError) (o : Option TaskView) → StaysOf home code most r new
      → IfSome o (λ t. r ≡ Ok (turn.Started t)) → IfSome o (IsTaskOf home code most)
  started r None stays is = tt
  started r (Some t) stays is = (subst (λ s. StaysOf home code most s new) is stays).1

  child_of : {A E : Type 0} (r : Result Turn RunError) (it : Result (A × Option TaskView) E) → StaysOf home code most r new
      → IfOk it (λ x. IfSome x.1 (λ t. r ≡ Ok (turn.Started t))) → IfOk it (λ x. IfSome x.1 (IsTaskOf home code most))
  child_of r (Err e) stays is = tt
  child_of r (Ok x) stays is = started r x.1 stays is

pub returns-clause-own : goal.returns-clause-own
returns-clause-own c =
    own_of c.args.registry.now c.args.code.now c.args.most c.turn.new.self c.turn.result c.answered.result
    (c.turn.ensures.stays c.args.registry.now c.args.code.now c.args.most c.requires.own) c.answered.ensures.memory

pub returns-clause-child : goal.returns-clause-child
returns-clause-child c =
    child_of c.args.registry.now c.args.code.now c.args.most c.turn.new.self c.turn.result c.answered.result
    (c.turn.ensures.stays c.args.registry.now c.args.code.now c.args.most c.requires.own) c.answered.ensures.child
