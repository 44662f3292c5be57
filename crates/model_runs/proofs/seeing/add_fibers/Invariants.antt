use Rattle.std.proofs.Common.{◌≡◌, map, take}
use Rattle.model_runs.proofs.seeing.add_fibers.Given as goal

-- the outcomes of the fibers so far
abbrev pub invariant-loop-number : goal.invariant-loop-number
invariant-loop-number l = map (λ f. f.outcome) l.fibers.items ≡ map (λ f. f.outcome) (take l.number l.reports)
