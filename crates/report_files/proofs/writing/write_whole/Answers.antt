use Rattle.std.proofs.{Common.{arith, rules}, lemmas.Grind.common_steps}
use Rattle.text_io.proofs.KnownLemmas.{appends_more}
use Rattle.report_files.proofs.WritingLemmas.{appends_none}
use Rattle.report_files.proofs.writing.write_whole.Goals as goal
use Rattle.report_files.proofs.writing.write_whole.Goals.{in-Ok, in-Err}

pub loop-preserved : goal.loop-preserved
loop-preserved g c = elim c.match-write.branch [
  | in-Ok w ↦ record {
    within = grind (arith, common_steps, w.written-is, w.in-Ok.ensures.bound);
    written = grind (arith, common_steps, appends_more, w.written-is, w.in-Ok.ensures.bytes, c.loop.invariant.written);
  }
  | in-Err w ↦ record {
    within = grind (arith, common_steps, w.written-is);
    written = grind (arith, common_steps, appends_none, w.written-is, w.in-Err.ensures.bytes, c.loop.invariant.written);
  }
]
