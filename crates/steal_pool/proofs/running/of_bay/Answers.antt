use Rattle.steal_pool.proofs.Named.{all_named}
use Rattle.steal_pool.proofs.running.of_bay.Goals as goal

pub of-requires : goal.of-requires
of-requires g c = (
  c.args.options.moves,
  all_named record { home = c.args.registry.now; code = c.args.code.now; most = c.args.options.moves } _ _ c.requires.named
      c.in_ok-empty.ensures.named,
)

pub returns-clause-left : goal.returns-clause-left
returns-clause-left g c = c.in_ok-leavings.ensures.left c.args.options.moves
    (all_named record { home = c.args.registry.now; code = c.args.code.now; most = c.args.options.moves } _ _ c.requires.named
    c.in_ok-empty.ensures.named)
