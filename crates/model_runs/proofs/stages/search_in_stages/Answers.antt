use Rattle.derived_ops.specs.{Expansion.code_of, Reading.source_of}
use Rattle.model_runs.{specs.Seeing.IsSeen, proofs.Searches.all_more}
use Rattle.model_runs.proofs.stages.search_in_stages.Goals as goal

pub returns-then-is_met : goal.returns-then-is_met
returns-then-is_met g c = record {
  right = c.search_without_worlds.ensures (code_of (source_of c.args.prepared.now.program)) c.args.plan.limits;
}

pub loop-preserved : goal.loop-preserved
loop-preserved g c =
    all_more (IsSeen (code_of (source_of c.args.prepared.now.program)) c.args.plan.limits) _ _ _ c.in_ok-keep.ensures
    c.in_ok-is_over.ensures.seen c.in_ok-stage.ensures.right.each
