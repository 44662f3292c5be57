use Rattle.std.proofs.Common.{ℕ, List, true, sym, subst}
use Rattle.derived_ops.specs.{Expansion.code_of, Reading.source_of}
use Rattle.every_outcome.specs.{Places.{first_place, with_says}, Private.Reduced.IsUnfolded}
use Rattle.every_outcome.proofs.reporting.answer.Goals as goal

pub returns-clause-told : goal.returns-clause-told
returns-clause-told g c =
    let says = with_says g.row.SAYS in
    let first = first_place says (code_of (source_of c.args.program.now)) c.args.limits in
    record {
      schedule = subst (λ (t : List ℕ). IsUnfolded says true first t c.new.result) c.as_slice.ensures.value
          (subst (λ (l : List ℕ). IsUnfolded says true first c.as_slice.result.now l) (sym c.new.ensures) (c.in_ok-schedule.ensures.entries says));
      ends = c.in_ok-end.ensures;
    }
