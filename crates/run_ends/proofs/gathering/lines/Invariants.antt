use Rattle.std.proofs.Common.{All}
use Rattle.run_ends.specs.{Private.Gathered.AreLines, Gathering.IsLawful}
use Rattle.run_ends.proofs.gathering.lines.Given as goal

-- the lines of the fibers so far
abbrev pub invariant-loop-number : goal.invariant-loop-number
invariant-loop-number l = AreLines l.configs l.number l.lines.items × All IsLawful l.lines.items
