use Rattle.std.proofs.Common.{◌≡◌, true, take}
use Rattle.std.specs.List.{list_all}
use Rattle.every_schedule.specs.Claims.{is_seen}
use Rattle.every_schedule.proofs.claims.have_seen.Given as goal

-- the words so far compare only refs that were seen
abbrev pub invariant-loop-word : goal.invariant-loop-word
invariant-loop-word l = list_all (is_seen l.seen) (take l.word-index l.words) ≡ true
