use Rattle.std.proofs.Common.{arith, rules}
use Rattle.term_parse.{specs.OpenForms.innermost, proofs.Steps.{fails_use, fails_name, reads_name}}
use Rattle.term_parse.proofs.form.use_name.Goals as goal

pub returns-in_default : goal.returns-in_default
returns-in_default c = record {
  found = λ at d n. tt;
  fault = λ at d n. fails_use c.args.text.now at (innermost c.args.scope.now c.args.form.now) c.args.kind
      c.args.token n c.requires.good c.requires.part c.in_default.not-Called d;
}

pub returns-in_ok-with_piece-in-Ok-clause-found : goal.returns-in_ok-with_piece-in-Ok-clause-found
returns-in_ok-with_piece-in-Ok-clause-found c =
    λ at d n. (
      reads_name c.args.text.now at (innermost c.args.scope.now c.args.form.now) _ c.args.kind c.args.token
          c.in-Ok.name n c.in-Called.is c.requires.part (search rules) (c.in_ok-with_piece-in-Ok.ensures c.args.scope.now),
      omega (arith, n.later, n.some),
      n.within,
    )

pub returns-in-Err-clause-fault : goal.returns-in-Err-clause-fault
returns-in-Err-clause-fault c = λ at d n. fails_name c.args.text.now at (innermost c.args.scope.now c.args.form.now)
    c.args.kind c.args.token c.in-Err.error n c.in-Called.is c.requires.part (search rules) d
