use Rattle.std.specs.List.{AllWithin}
use Rattle.claim_words.specs.MadeRefs.{IsMade}
use Rattle.claim_words.proofs.made_refs.ref_beyond.Given as goal

-- the words so far name no other ref
abbrev pub invariant-loop-word : goal.invariant-loop-word
invariant-loop-word l = AllWithin (IsMade l.refs) l.words 0 l.word-index
