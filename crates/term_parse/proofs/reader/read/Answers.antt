use Rattle.std.proofs.Common.{◌∙◌}
use Rattle.term_parse.proofs.Stacks.{reading_long, reading_short}
use Rattle.term_parse.proofs.reader.read.Goals as goal

pub returns-then-text-gt-LONGEST-clause-fault : goal.returns-then-text-gt-LONGEST-clause-fault
returns-then-text-gt-LONGEST-clause-fault c = λ ne. reading_long c.args.text.now c.if-text-gt-LONGEST.true

pub returns-in-Err-clause-fault : goal.returns-in-Err-clause-fault
returns-in-Err-clause-fault c = λ ne. reading_short c.args.text.now c.if-text-gt-LONGEST.false ∙ c.in-Err.ensures.fault ne
