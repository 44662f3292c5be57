use Rattle.std.proofs.Common.{rules}
use Rattle.effect_term.specs.declared.term.Term.TheViews.{the_lemmas}
use Rattle.term_parse.proofs.printer.more_of.Goals as goal

pub returns-in-Seq : goal.returns-in-Seq
returns-in-Seq c = search (rules, the_lemmas)
