use Rattle.std.proofs.Common.{◌≡◌, true, take}
use Rattle.std.specs.List.{list_all}
use Rattle.claim_words.specs.Heads.{is_plain}
use Rattle.claim_words.proofs.heads.plain_front.Given as goal

-- all bytes so far are plain
abbrev pub invariant-loop-at : goal.invariant-loop-at
invariant-loop-at l = list_all is_plain (take l.at l.text) ≡ true
