use Rattle.term_parse.proofs.build.build_with_more.Goals as goal
use Rattle.std.proofs.Common.{rules, arith}
use Rattle.effect_term.specs.declared.term.Term.TheViews.{the_lemmas}
use Rattle.term_parse.proofs.Builds.{row_atoms-row}

pub returns-in_ok-first-in-Seq : goal.returns-in_ok-first-in-Seq
returns-in_ok-first-in-Seq c =
    first_of (
      search (rules, the_lemmas, row_atoms-row, c.in_ok-first-in-Seq.ensures, c.in-Seq.is),
      grind (rules, the_lemmas, row_atoms-row, c.in_ok-first-in-Seq.ensures, c.in-Seq.is),
      grind (arith, the_lemmas, row_atoms-row, c.in_ok-first-in-Seq.ensures, c.in-Seq.is),
    )
