use Rattle.std.proofs.Common.{◌≡◌, [], take}
use Rattle.std.specs.List.{fold}
use Rattle.claim_answers.specs.Claims.{set_more}
use Rattle.claim_answers.proofs.moments.all_set.Given as goal

-- the words so far
abbrev pub invariant-loop-word : goal.invariant-loop-word
invariant-loop-word l = l.all.items ≡ fold set_more [] (take l.word-index l.words)
