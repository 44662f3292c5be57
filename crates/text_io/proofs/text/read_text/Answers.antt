use Rattle.std.proofs.{Common.{◌≡◌, ◌≤◌, length, take, drop, arith, ap, ◌∙◌, Err}, lemmas.{List.{take_at, take-append-le}, Grind.common_steps}}
use Rattle.text_io.{specs.Device.read_failed, proofs.{KnownLemmas.{consumes_more, consumes_same}, ReadLemmas.{found_end-some, or-false, ran_out, read_full}}}
use Rattle.text_io.proofs.text.read_text.Goals.{in-Ok+else-length-eq-TEXT_BOUND, in-Err-Interrupted}
use Rattle.text_io.proofs.text.read_text.Goals as goal

pub returns-then-length-eq-TEXT_BOUND-clause-read :
    goal.returns-then-length-eq-TEXT_BOUND-clause-read
returns-then-length-eq-TEXT_BOUND-clause-read g c =
    let buffer = c.read_after.new.buffer in
    let whole : length buffer ≡ c.loop.text.len = grind (arith, common_steps) in
    let fits : c.loop.text.len ≤ length buffer = omega arith in
    rw (take-append-le c.loop.text.len buffer _ fits)
    (read_full _ _ c.loop.text.len buffer c.loop.invariant.sized fits
    (consumes_more _ _ _ c.loop.length c.in-Ok.count c.loop.text.len c.loop.text.items buffer (c.in-Ok.ensures.kept ∙
    ap (take c.loop.length) c.deref_mut.ensures.value) (omega (arith, c.loop.invariant.sized)) c.loop.invariant.taken c.in-Ok.ensures.bytes.0))

pub returns-clause-turns : goal.returns-clause-turns
returns-clause-turns g c = λ e.
    let told = c.loop.invariant in
    ran_out _ _ c.loop.length c.loop.counter c.loop.text.items told.within c.loop-test.false c.loop.auto.counter-end told.counted told.unended told.taken

pub loop-preserved : goal.loop-preserved
loop-preserved g c =
    let buffer = c.read_after.new.buffer in
    let whole : length buffer ≡ c.loop.text.len = grind (arith, common_steps) in
    elim c.match-read_after.branch [
      | in-Ok+else-length-eq-TEXT_BOUND w ↦ record {
        sized = c.loop.invariant.sized;
        within = omega (arith, w.in-Ok.ensures.bound, c.loop.invariant.sized);
        healthy = w.in-Ok.ensures.failed;
        unended = w.in-Ok.ensures.ended ∙
            found_end-some (g.T.TextIn.seen c.loop.input).ended w.in-Ok.count (drop c.loop.length buffer) w.in-Ok.count-test.1 ∙ c.loop.invariant.unended;
        counted = omega (arith, w.in-Ok.ensures.counted, c.loop.invariant.counted);
        taken = rw (take_at buffer _ c.loop.text.len whole)
            (consumes_more _ _ _ c.loop.length w.in-Ok.count _ c.loop.text.items buffer (w.in-Ok.ensures.kept ∙
            ap (take c.loop.length) c.deref_mut.ensures.value) w.length-is c.loop.invariant.taken w.in-Ok.ensures.bytes.0);
      }
      | in-Err-Interrupted w ↦ record {
        sized = c.loop.invariant.sized;
        within = omega arith;
        healthy = w.in-Err-Interrupted.ensures.failed ∙ ap (λ e. read_failed (Err e)) w.in-Err-Interrupted.field-0-is;
        unended = w.in-Err-Interrupted.ensures.ended ∙ or-false (g.T.TextIn.seen c.loop.input).ended ∙ c.loop.invariant.unended;
        counted = omega (arith, w.in-Err-Interrupted.ensures.counted, c.loop.invariant.counted);
        taken = rw (take_at buffer _ c.loop.text.len whole, w.length-is)
            (consumes_same _ _ _ c.loop.length c.loop.text.items buffer (w.in-Err-Interrupted.ensures.kept ∙
            ap (take c.loop.length) c.deref_mut.ensures.value) c.loop.invariant.taken w.in-Err-Interrupted.ensures.bytes);
      }
    ]
