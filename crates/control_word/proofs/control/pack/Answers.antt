use Rattle.std.proofs.Common.{arith}
use Rattle.control_word.proofs.Fields.{word_is}
use Rattle.control_word.proofs.control.pack.Goals as goal

pub returns : goal.returns
returns c = record { sum = rw word_is (omega arith) }
