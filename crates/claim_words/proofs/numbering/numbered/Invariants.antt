use Rattle.std.proofs.Common.{◌≡◌, ◌≤◌, ◌++◌, drop}
use Rattle.claim_words.specs.Heads.{numbered}
use Rattle.claim_words.proofs.numbering.numbered.Given as goal

-- the words so far, and those that are left
abbrev pub invariant-loop-word : goal.invariant-loop-word
invariant-loop-word l = record {
  low : l.next ≤ l.word-index;
  all_are : l.all.items ++ numbered (drop l.word-index l.words) (drop l.next l.numbers) ≡ numbered l.words l.numbers;
}
