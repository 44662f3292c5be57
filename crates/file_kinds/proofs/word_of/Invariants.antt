use Rattle.std.proofs.Common.{◌≡◌, ◌++◌, drop, take}
use Rattle.file_kinds.specs.Beginnings.{word_of}
use Rattle.file_kinds.proofs.word_of.Given as goal

-- the bytes so far are bytes of the word
abbrev pub invariant-loop-at : goal.invariant-loop-at
invariant-loop-at l = take l.at l.text ++ word_of (drop l.at l.text) ≡ word_of l.text
