use Rattle.std.proofs.Common.{rules}
use Rattle.text_io.proofs.wrapped.FromRead.new.Goals as goal

pub returns-clause-unread : goal.returns-clause-unread
returns-clause-unread g c = search rules
