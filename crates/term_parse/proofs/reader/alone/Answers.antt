use Rattle.term_parse.proofs.Stacks.{reading_over, reading_trails}
use Rattle.term_parse.proofs.reader.alone.Goals as goal

pub returns-in-None-clause-found : goal.returns-in-None-clause-found
returns-in-None-clause-found c = reading_over c.args.text.now c.args.term c.args.end c.requires.short c.requires.whole c.in-None.ensures.none

pub returns-in-Some-clause-fault : goal.returns-in-Some-clause-fault
returns-in-Some-clause-fault c =
    λ ne. reading_trails c.args.text.now c.args.term c.args.end c.in-Some.token c.requires.short c.requires.whole c.in-Some.ensures.found
