use Rattle.term_parse.proofs.Steps.{read_end, read_bad_byte, read_bad_number}
use Rattle.term_parse.proofs.form.wanted.Goals as goal

pub returns-in_default-clause-fault : goal.returns-in_default-clause-fault
returns-in_default-clause-fault c = read_end c.args.text.now c.args.at c.in_default.ensures.none

pub returns-in-BadByte-clause-fault : goal.returns-in-BadByte-clause-fault
returns-in-BadByte-clause-fault c = read_bad_byte c.args.text.now c.args.at c.in-Some.token c.in-Some.ensures.found c.in-BadByte.is

pub returns-in-BadNumber-clause-fault : goal.returns-in-BadNumber-clause-fault
returns-in-BadNumber-clause-fault c = read_bad_number c.args.text.now c.args.at c.in-Some.token c.in-Some.ensures.found c.in-BadNumber.is
