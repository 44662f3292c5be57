use Rattle.std.proofs.Common.{arith}
use Rattle.term_parse.{specs.OpenForms.innermost, proofs.Steps.{fails_value, reads_number}}
use Rattle.term_parse.proofs.form.value.Goals as goal

pub returns-in_ok-with_piece-in-Number-clause-found : goal.returns-in_ok-with_piece-in-Number-clause-found
returns-in_ok-with_piece-in-Number-clause-found c =
    λ at d n. (
      reads_number c.args.text.now at (innermost c.args.scope.now c.args.form.now) _ c.args.token
          c.in-Number.n c.number.result n c.in-Number.is c.requires.part
          c.number.ensures
          (c.in_ok-with_piece-in-Number.ensures c.args.scope.now),
      omega (arith, n.later, n.some),
      n.within,
    )

pub returns-in_default : goal.returns-in_default
returns-in_default c = record {
  found = λ at d n. tt;
  fault = λ at d n. fails_value c.args.text.now at (innermost c.args.scope.now c.args.form.now) c.args.token n
      c.requires.good c.requires.part c.in_default.not-Called c.in_default.not-Number d;
}
