use Rattle.std.proofs.Common.{◌≡◌, ◌++◌, drop}
use Rattle.text_io.specs.Shown.{shown}
use Rattle.text_io.proofs.shown.push_shown.Given as goal

-- the bytes so far, followed by the remaining ones as they are shown, are the whole result
abbrev pub invariant-loop-byte : goal.invariant-loop-byte
invariant-loop-byte l = l.told.items ++ shown (drop l.byte-index l.bytes) ≡ l.initial.told.items ++ shown l.bytes
