use Rattle.std.proofs.Common.{rules}
use Rattle.wait_bay.proofs.bay.Bay.put.Goals as goal

pub returns-in_default-clause-error : goal.returns-in_default-clause-error
returns-in_default-clause-error g c = search rules

pub lay-requires-clause-own : goal.lay-requires-clause-own
lay-requires-clause-own g c = search rules

pub returns-in-None-clause-own : goal.returns-in-None-clause-own
returns-in-None-clause-own g c = search rules

pub returns-clause-error : goal.returns-clause-error
returns-clause-error g c = search rules
