use Rattle.term_parse.{specs.OpenForms.innermost, proofs.Steps.fails_term}
use Rattle.term_parse.proofs.form.one_term.Goals as goal

pub returns-in_default : goal.returns-in_default
returns-in_default c = record {
  found = λ at n. tt;
  fault = λ at n. fails_term c.args.text.now at (innermost c.args.scope.now.items c.args.form.now) c.args.part
      c.args.token n c.requires.good c.requires.part c.requires.term c.in_default.not-Open c.args.depth;
}
