use Rattle.std.proofs.Common.{arith, inl, inr}
use Rattle.run_ends.proofs.Ending.{core_fault, gathered_fits, no_memory_fault, refused_there}
use Rattle.run_ends.proofs.finishing.Leavings.enter_each.Goals as goal

pub enter_all-requires : goal.enter_all-requires
enter_all-requires c =
    gathered_fits c.args.registry c.requires.met.0 c.requires.met.1 c.args.self.met c.args.self.configs.items c.in_ok-fibers.fibers.items
    c.args.self.rests.items c.born-born.result c.in_ok-registry.registry c.requires.met.2 c.in_ok-registry.ensures.left c.in_ok-fibers.ensures.order
    c.born-born.ensures.born

pub returns : goal.returns
returns c code most g = elim c.in-Err.ensures.stops [
  | inl h ↦ no_memory_fault code c.args.registry.limits c.in-Err.fault h
  | inr h ↦ core_fault code c.args.registry.limits c.in-Err.fault
      (refused_there c.args.registry code most c.args.self.met c.args.self.configs.items c.in_ok-fibers.fibers.items
      c.args.self.rests.items c.born-born.result c.in_ok-registry.registry g c.in_ok-registry.ensures.left c.in_ok-fibers.ensures.order
      c.born-born.ensures.born (omega arith) c.as_slice.result.now c.in-Err.fault h)
]
