use Rattle.std.proofs.{Common.{◌∙◌, arith}, lemmas.Result.err_from_is_err_and}
use Rattle.scheduled_core.proofs.Settling.{memory_or_stops, more_on}
use Rattle.scheduled_core.proofs.finals.settle_noted.Goals as goal

pub loop-number-preserved : goal.loop-number-preserved
loop-number-preserved g c =
    let i = c.loop-number.invariant in
    let t = c.in_ok-go_on.ensures in
    record {
      limits = t.limits ∙ i.limits;
      fits = t.fits;
      still = λ none. absurd (omega arith);
      each = t.each;
      goes = more_on _ _ _ _ _ _ _ _ _ _ _ i.goes i.limits t.goes c.saturating_add-finished.ensures;
    }

pub returns-in_err-go_on-clause-stops : goal.returns-in_err-go_on-clause-stops
returns-in_err-go_on-clause-stops g c =
    let p = err_from_is_err_and c.from_residual.result c.from_residual.ensures.1 in
    let i = c.loop-number.invariant in
    rw (p.1, p.2) (memory_or_stops _ _ _ _ _ _ _ _ _ i.goes i.limits c.in_err-go_on.ensures.stops)
