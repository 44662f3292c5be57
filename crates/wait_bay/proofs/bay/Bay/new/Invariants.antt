use Rattle.std.proofs.Common.{◌≡◌, vec_len}
use Rattle.wait_bay.proofs.bay.Bay.new.Given as goal

abbrev pub invariant-loop : goal.invariant-loop
invariant-loop l = vec_len l.slots ≡ l.counter
