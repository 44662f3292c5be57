use Rattle.std.proofs.{Common.{arith, rules}, lemmas.Grind.common_steps}
use Rattle.text_io.proofs.KnownLemmas.{appends_more}
use Rattle.text_io.proofs.text.write_text.Goals as goal

pub loop-written-preserved : goal.loop-written-preserved
loop-written-preserved g c = record {
  within = grind (arith, common_steps, c.in-Ok.ensures.bound);
  healthy = grind (arith, common_steps, c.in-Ok.ensures.failed);
  written = grind (arith, common_steps, appends_more, c.in-Ok.ensures.bytes, c.loop-written.invariant.written);
}

pub returns-in-Ok-eq0-clause-text : goal.returns-in-Ok-eq0-clause-text
returns-in-Ok-eq0-clause-text g c = search rules
