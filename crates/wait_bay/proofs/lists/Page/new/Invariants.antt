use Rattle.std.proofs.Common.{◌≡◌, vec_len}
use Rattle.wait_bay.proofs.lists.Page.new.Given as goal

abbrev pub invariant-loop : goal.invariant-loop
invariant-loop l = vec_len l.lists ≡ l.counter
