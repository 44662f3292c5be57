use Rattle.std.proofs.Common.{rules, arith}
use Rattle.effect_term.specs.declared.term.Term.TheViews.{the_lemmas}
use Rattle.term_parse.proofs.build.build_with_two.Goals as goal

pub returns-in_ok-first-in-Let : goal.returns-in_ok-first-in-Let
returns-in_ok-first-in-Let c =
    first_of (
      search (rules, the_lemmas, c.in_ok-first-in-Let.ensures, c.in-Let.is),
      grind (arith, the_lemmas, c.in_ok-first-in-Let.ensures, c.in-Let.is),
    )
