use Rattle.std.proofs.Common.{◌≡◌, [], ◌∷◌, List, sym, subst, rules}
use Rattle.derived_ops.specs.{Expansion.code_of, Naming.Given, Reading.source_of}
use Rattle.fiber_frames.specs.{Fiber.{Fiber, begins}, Naming.NamedBeginning}
use Rattle.cell_registry.specs.Cells.{opening}
use Rattle.scheduled_core.{specs.Fitting.{AllFit, world_of}, proofs.Worlds.all_first}
use Rattle.scheduled_core.proofs.scheduled.first_fibers.Goals as goal

pub returns-clause-fits : goal.returns-clause-fits
returns-clause-fits c = λ limits lawful.
    let code = code_of (source_of c.args.program.now) in
    let first : c.in_ok-first.first ≡ begins 0 code = c.in_ok-first.ensures.first in
    let fibers : c.push.new.self.items ≡ begins 0 code ∷ [] = search rules in
    let named : (given : Given) → NamedBeginning given (begins 0 code) = λ given. subst (NamedBeginning given) first (c.in_ok-first.ensures.named given) in
    subst (λ (fs : List Fiber). AllFit (world_of fs (opening limits))) (sym fibers) (all_first limits code lawful named)
