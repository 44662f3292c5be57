use Rattle.std.proofs.Common.{◌≡◌, vec_len}
use Rattle.wait_bay.proofs.lists.Lists.new.Given as goal

abbrev pub invariant-loop : goal.invariant-loop
invariant-loop l = vec_len l.pages ≡ l.counter
