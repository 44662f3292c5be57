use Rattle.term_parse.{specs.Reading.reading, proofs.{FaultLaws.reading-from_fault, KindLaws.closed_from, ParseLaws.{spelled_from, one_term_from}}}
use Rattle.term_parse.proofs.{ParseLaws.{first_fault_from, one_fault_from}, SpelledLaws.reading-from_spelled, Stacks.{only_from, refused_from}}
use Rattle.term_parse.proofs.reader.parse.Goals as goal

pub returns-clause-only : goal.returns-clause-only
returns-clause-only c = λ atoms h. only_from c.read.result (reading c.args.text.now) atoms c.read.ensures.fault h

pub returns-clause-refused : goal.returns-clause-refused
returns-clause-refused c = λ e h. refused_from c.read.result (reading c.args.text.now) e c.read.ensures.found h

pub returns-clause-good : goal.returns-clause-good
returns-clause-good c = λ atoms h. only_from c.read.result (reading c.args.text.now) atoms c.read.ensures.fault (reading-from_spelled c.args.text.now atoms h)

pub returns-clause-at_fault : goal.returns-clause-at_fault
returns-clause-at_fault c = λ e h. refused_from c.read.result (reading c.args.text.now) e c.read.ensures.found (reading-from_fault c.args.text.now e h)

pub returns-clause-spelled : goal.returns-clause-spelled
returns-clause-spelled c = spelled_from c.args.text.now c.read.result c.read.ensures.found

pub returns-clause-one_term : goal.returns-clause-one_term
returns-clause-one_term c = one_term_from c.args.text.now c.read.result c.read.ensures.found

pub returns-clause-first_fault : goal.returns-clause-first_fault
returns-clause-first_fault c = first_fault_from c.args.text.now c.read.result c.read.ensures.fault

pub returns-clause-one_fault : goal.returns-clause-one_fault
returns-clause-one_fault c = one_fault_from c.args.text.now c.read.result c.read.ensures.fault

pub returns-clause-closed : goal.returns-clause-closed
returns-clause-closed c = closed_from c.args.text.now c.read.result c.read.ensures.found
