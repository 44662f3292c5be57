use Rattle.std.{proofs.Common.◌∙◌, proofs.lemmas.Result.IfOk-weaker}
use Rattle.every_outcome.specs.Places.{with_says}
use Rattle.every_outcome.proofs.world.SeenWorld.first.Goals as goal

pub returns-clause-first : goal.returns-clause-first
returns-clause-first g c = IfOk-weaker c.new.result _ _ (λ it e. e ∙ c.in_ok-core.ensures.first (with_says g.row.SAYS)) c.new.ensures
