use Rattle.std.proofs.{Common.{◌≡◌, length, get_or, arith}, lemmas.{List.Elements.AllWithin-upto, Option.slice_get-get_or}}
use Rattle.model_runs.proofs.Looks.{unfound}
use Rattle.model_runs.proofs.moments.met_number.Goals as goal

pub returns-clause-none : goal.returns-clause-none
returns-clause-none c =
    let met = c.args.met.now in
    unfound met c.args.claim
    (AllWithin-upto (λ m. m.claim ≡ c.args.claim → ⊥) met 0 c.loop-number.number (length met) (omega arith) c.loop-number.invariant)

pub returns-then-met-number-clause-some : goal.returns-then-met-number-clause-some
returns-then-met-number-clause-some c =
    let met = c.args.met.now in (
      get_or met c.loop-number.number c.index-met-number.result,
      slice_get-get_or met c.loop-number.number c.index-met-number.result c.loop-number-test.true,
      c.if-met-number.true,
    )
