use Rattle.std.proofs.Common.{arith, rules}
use Rattle.term_parse.{specs.OpenForms.innermost, proofs.Steps.{fails_named_value, reads_named_value}}
use Rattle.term_parse.proofs.form.named_value.Goals as goal

pub returns-in_ok-with_piece-in-Ok-clause-found : goal.returns-in_ok-with_piece-in-Ok-clause-found
returns-in_ok-with_piece-in-Ok-clause-found c =
    λ at d n. (
      reads_named_value c.args.text.now at (innermost c.args.scope.now c.args.form.now) _ c.args.token
          c.in-Ok.name n c.requires.called c.requires.part (search rules)
          (c.in_ok-with_piece-in-Ok.ensures c.args.scope.now),
      omega (arith, n.later, n.some),
      n.within,
    )

pub returns-in-Err-clause-fault : goal.returns-in-Err-clause-fault
returns-in-Err-clause-fault c =
    λ at d n. fails_named_value c.args.text.now at (innermost c.args.scope.now c.args.form.now) c.args.token
    c.in-Err.error n c.requires.called c.requires.part (search rules) d
