use Rattle.std.proofs.Common.{◌≡◌, map, take}
use Rattle.model_runs.specs.Moments.{claim_word}
use Rattle.model_runs.proofs.looking.sought_words.Given as goal

-- the words so far
abbrev pub invariant-loop-word : goal.invariant-loop-word
invariant-loop-word l = l.sought.items ≡ map claim_word (take l.word-index l.words)
