use Rattle.std.proofs.Common.{rules}
use Rattle.term_parse.specs.Language.{word_spelling}
use Rattle.term_parse.proofs.table.spelling_of.Goals as goal

pub returns-in-Set-clause-value : goal.returns-in-Set-clause-value
unfolding word_spelling
returns-in-Set-clause-value c = search rules

pub returns-in-Modify-clause-value : goal.returns-in-Modify-clause-value
unfolding word_spelling
returns-in-Modify-clause-value c = search rules
