use Rattle.std.proofs.Common.{map, take}
use Rattle.claim_words.specs.Heads.{AreNumbersOf}
use Rattle.claim_words.proofs.numbering.numbers_of.Given as goal

-- the numbers so far
abbrev pub invariant-loop-name : goal.invariant-loop-name
invariant-loop-name l = AreNumbersOf l.text (map (λ x. x.now) (take l.name-index l.names)) l.numbers.items
