use Rattle.std.proofs.Common.{◌≡◌, [], take}
use Rattle.std.specs.List.{fold}
use Rattle.every_schedule.specs.Leanings.{leaned}
use Rattle.every_schedule.proofs.leanings.lean_all.Given as goal

-- the stack after the words so far
abbrev pub invariant-loop-word : goal.invariant-loop-word
invariant-loop-word l = l.stack.items ≡ fold leaned [] (take l.word-index l.words)
