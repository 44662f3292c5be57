use Rattle.std.{proofs.Common.{◌≡◌, ◌≤◌, length, take}, specs.Prelude.◌-◌}
use Rattle.compared_ends.specs.Views.{said}
use Rattle.compared_ends.proofs.views.next_said.Given as goal

-- nothing is said from the place up to here
abbrev pub invariant-loop-index : goal.invariant-loop-index
invariant-loop-index l = record {
  within : l.index ≤ length l.marks;
  none : said (take l.index l.marks) ≡ said (take l.place l.marks);
}

abbrev pub decreases-loop-index : goal.decreases-loop-index
decreases-loop-index l = length l.marks - l.index
