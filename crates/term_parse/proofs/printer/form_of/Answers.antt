use Rattle.term_parse.proofs.FormLaws.{form_spelling, form_atoms, form_suffices}
use Rattle.term_parse.proofs.printer.form_of.Goals as goal

pub returns-clause-spelled : goal.returns-clause-spelled
returns-clause-spelled c = form_spelling c.args.term.now _ _ _ c.term_word.ensures c.pieces_in.ensures c.more_of.ensures

pub returns-clause-atoms : goal.returns-clause-atoms
returns-clause-atoms c = form_atoms c.args.term.now _ _ _ c.term_word.ensures c.pieces_in.ensures c.more_of.ensures

pub returns-clause-enough : goal.returns-clause-enough
returns-clause-enough c = form_suffices c.args.term.now _ _ _ c.term_word.ensures c.pieces_in.ensures c.more_of.ensures
