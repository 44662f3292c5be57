use Rattle.std.proofs.Common.{◌≡◌, [], take}
use Rattle.std.specs.List.{fold}
use Rattle.every_schedule.specs.Claims.{worded}
use Rattle.every_schedule.proofs.claims.holds.Given as goal

-- the stack after the words so far
abbrev pub invariant-loop-word : goal.invariant-loop-word
invariant-loop-word l = record {
  same : l.registry ≡ l.initial.registry;
  stack : l.stack.items ≡ fold (worded l.fn.standing l.initial.registry.state) [] (take l.word-index l.words);
}
