use Rattle.std.proofs.Common.{refl, ◌∙◌}
use Rattle.world_search.proofs.Flags.{keeps_same, keeps_keeps, flagged_same, flagged_flagged}
use Rattle.world_search.proofs.spread.spread.Goals as goal

pub loop-init : goal.loop-init
loop-init c = record {
  long = refl;
  keeps = keeps_same c.args.flags.now.items;
  flagged = flagged_same c.args.edges.now c.args.flags.now.items;
}

pub loop-preserved : goal.loop-preserved
loop-preserved c =
    let known = c.loop.invariant in
    let told = c.sweep.ensures in
    record {
      long = told.long ∙ known.long;
      keeps = keeps_keeps c.args.flags.now.items c.loop.flags.items c.sweep.new.flags.items known.keeps told.keeps;
      flagged = flagged_flagged c.args.edges.now c.args.flags.now.items c.loop.flags.items c.sweep.new.flags.items known.flagged told.flagged;
    }

pub returns-clause-flagged : goal.returns-clause-flagged
returns-clause-flagged c =
    flagged_flagged c.args.edges.now c.args.flags.now.items c.loop.flags.items c.sweep.new.flags.items c.loop.invariant.flagged c.sweep.ensures.flagged
