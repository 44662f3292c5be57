use Rattle.std.proofs.Common.{◌≡◌, [], take}
use Rattle.std.specs.List.{fold}
use Rattle.claim_words.specs.Spacing.{with_byte}
use Rattle.claim_words.proofs.spacing.spaced_text.Given as goal

-- the bytes so far
abbrev pub invariant-loop-byte : goal.invariant-loop-byte
invariant-loop-byte l = l.spaced.items ≡ fold with_byte [] (take l.byte-index l.text)
