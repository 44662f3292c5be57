use Rattle.std.proofs.Common.{ap, ◌∙◌}
use Rattle.scheduled_core.specs.Core.{wish_of}
use Rattle.every_schedule.proofs.known.Known.of.Goals as goal

pub returns : goal.returns
returns c = record {
  wish = c.of.ensures ∙ ap wish_of c.ask.ensures.ask;
  waits = c.waits_alone.ensures;
  owned = c.owned_of.ensures;
  weight = c.weight_of.ensures;
  uses = c.in_ok-uses.ensures c.args.fiber.now;
}
