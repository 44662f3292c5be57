use Rattle.std.proofs.Common.{◌≡◌, false, drop}
use Rattle.file_kinds.specs.Beginnings.{behind_blanks}
use Rattle.file_kinds.proofs.behind_blanks.Given as goal

-- what is left of the text begins in a comment, if the text up to here does
abbrev pub invariant-loop-at : goal.invariant-loop-at
invariant-loop-at l = behind_blanks l.comment (drop l.at l.text) ≡ behind_blanks false l.text
