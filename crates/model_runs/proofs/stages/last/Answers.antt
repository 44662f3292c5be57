use Rattle.derived_ops.specs.{Expansion.code_of, Reading.source_of}
use Rattle.model_runs.proofs.Searches.{right_joined}
use Rattle.model_runs.proofs.stages.last.Goals as goal

pub returns : goal.returns
returns g c = record {
  right = right_joined (code_of (source_of c.args.prepared.now.program)) c.args.plan.limits c.joined.result c.args.stage.search.answers.items
      c.in_ok-all.all.answers.items c.joined.ensures.complete c.joined.ensures.answers c.requires.right.each c.in_ok-all.ensures.seen;
}
