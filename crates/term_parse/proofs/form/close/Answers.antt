use Rattle.std.proofs.Common.{refl, arith}
use Rattle.term_parse.{specs.OpenForms.innermost, proofs.Steps.{fails_close, closes_last}}
use Rattle.term_parse.proofs.form.close.Goals as goal

pub returns-in_default : goal.returns-in_default
returns-in_default c = record {
  found = λ s f i text at d n. tt;
  fault = λ s f i text at d n. fails_close text at (innermost s f) c.args.token n c.requires i c.in_default.not-Close d;
}

pub returns-clause-found : goal.returns-clause-found
returns-clause-found c = λ s f i text at d n. (
  closes_last text at (innermost s f) c.args.token n c.in-Close.is i,
  refl,
  refl,
  omega (arith, n.later, n.some),
  n.within,
)
