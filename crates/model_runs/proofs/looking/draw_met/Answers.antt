use Rattle.derived_ops.specs.{Expansion.code_of, Reading.source_of}
use Rattle.every_schedule.specs.Claims.{IsMetIn}
use Rattle.model_runs.proofs.Searches.{all_more}
use Rattle.model_runs.proofs.looking.draw_met.Goals as goal

pub loop-length-preserved : goal.loop-length-preserved
loop-length-preserved c =
    all_more (IsMetIn (code_of (source_of c.args.prepared.now.program)) c.args.plan.limits c.args.wanted.now) _ _ _
    c.in_ok-append.ensures.items c.loop-length.invariant c.in_ok-met.ensures.met
