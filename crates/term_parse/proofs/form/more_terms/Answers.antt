use Rattle.std.proofs.Common.{refl, arith}
use Rattle.term_parse.{specs.OpenForms.innermost, proofs.Steps.{fails_more, closes_more}}
use Rattle.term_parse.proofs.form.more_terms.Goals as goal

pub returns-in-Close-clause-found : goal.returns-in-Close-clause-found
returns-in-Close-clause-found c =
    λ at n. (
      closes_more c.args.text.now at (innermost c.args.scope.now.items c.args.form.now) c.args.token n
          c.in-Close.is c.requires.part,
      refl,
      refl,
      omega (arith, n.later, n.some),
      n.within,
    )

pub returns-in_default : goal.returns-in_default
returns-in_default c = record {
  found = λ at n. tt;
  fault = λ at n. fails_more c.args.text.now at (innermost c.args.scope.now.items c.args.form.now) c.args.token n
      c.requires.good c.requires.part c.in_default.not-Open c.in_default.not-Close c.args.depth;
}
