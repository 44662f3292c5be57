use Rattle.std.proofs.Common.{arith, inl, inr}
use Rattle.run_ends.proofs.Ending.{core_fault, end_of, finishes, gathered_fits, no_memory_fault, refused_there}
use Rattle.run_ends.proofs.finishing.Leavings.finish.Goals as goal

pub settle_noted-requires-clause-fits : goal.settle_noted-requires-clause-fits
settle_noted-requires-clause-fits o c =
    gathered_fits c.args.registry c.requires.met.0 c.requires.met.1 c.args.self.met c.args.self.configs.items c.in_ok-fibers.fibers.items
    c.args.self.rests.items c.born.result c.in_ok-registry.registry c.requires.met.2 c.in_ok-registry.ensures.left c.in_ok-fibers.ensures.order
    c.born.ensures.born

pub returns-clause-ends : goal.returns-clause-ends
returns-clause-ends o c code most g =
    end_of c.args.registry code most c.args.self.met c.args.self.configs.items c.in_ok-fibers.fibers.items c.args.self.rests.items c.born.result
    c.in_ok-registry.registry g c.in_ok-registry.ensures.left c.in_ok-fibers.ensures.order c.born.ensures.born
    _ c.settle_noted.new.rests.items _ (omega arith) c.in-Ok.ensures.goes c.in_ok-report.ensures.reports
    c.in-Ok.ensures.spent c.in-Ok.ensures.complete c.in-Ok.ensures.stopped

pub returns-clause-finished : goal.returns-clause-finished
returns-clause-finished o c =
    finishes c.args.registry c.requires.met.0 c.requires.met.1 c.args.self.met c.args.self.configs.items c.in_ok-fibers.fibers.items
    c.args.self.rests.items c.born.result c.in_ok-registry.registry c.requires.met.2 c.in_ok-registry.ensures.left c.in_ok-fibers.ensures.order
    c.born.ensures.born _ c.settle_noted.new.rests.items _ (omega arith) c.in-Ok.ensures.goes c.in_ok-report.ensures.reports

pub returns-in-Err-clause-faults : goal.returns-in-Err-clause-faults
returns-in-Err-clause-faults o c code most g = elim c.in-Err.ensures.stops [
  | inl h ↦ no_memory_fault code c.args.registry.limits c.in-Err.fault h
  | inr h ↦ core_fault code c.args.registry.limits c.in-Err.fault
      (refused_there c.args.registry code most c.args.self.met c.args.self.configs.items c.in_ok-fibers.fibers.items
      c.args.self.rests.items c.born.result c.in_ok-registry.registry g c.in_ok-registry.ensures.left c.in_ok-fibers.ensures.order
      c.born.ensures.born (omega arith) h.entries c.in-Err.fault h.stops)
]
