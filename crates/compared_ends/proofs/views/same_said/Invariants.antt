use Rattle.std.proofs.Common.{◌≡◌, ◌≤◌, length, take}
use Rattle.compared_ends.specs.Views.{said}
use Rattle.compared_ends.proofs.views.same_said.Given as goal

-- `one` said so far what `other` said before the place
abbrev pub invariant-loop-mark : goal.invariant-loop-mark
invariant-loop-mark l = record {
  within : l.place ≤ length l.other;
  same : said (take l.mark-index l.one) ≡ said (take l.place l.other);
}
