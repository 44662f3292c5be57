use Rattle.std.{proofs.Common.{◌≡◌, ◌≤◌, ◌-◌}, specs.List.All}
use Rattle.derived_ops.specs.{Expansion.code_of, Reading.source_of}
use Rattle.every_schedule.specs.Explored.{HasLawfulMarks}
use Rattle.sampled_schedules.specs.{declared.comings.Coming.Coming, Sampled.{IsDrawn, IsSampleOf}, Private.Noting.came_in_all}
use Rattle.sampled_schedules.proofs.sampled.sample_watched.Given as goal

-- `schedules` schedules were drawn, and this is their tally
abbrev pub invariant-loop-schedules : goal.invariant-loop-schedules
invariant-loop-schedules g l = record {
  sample : IsSampleOf (code_of (source_of l.fn.program)) l.fn.limits l.fn.entries l.schedules l.comings.items;
  answers : All (λ (c : Coming). IsDrawn (code_of (source_of l.fn.program)) l.fn.limits l.fn.entries c.answer) l.comings.items;
  lawful : All (λ (c : Coming). HasLawfulMarks c.answer) l.comings.items;
  counted : came_in_all l.comings.items ≡ l.schedules;
  few : l.schedules ≤ l.times;
  watches : g.V.Watcher.can_stop l.watcher ≡ g.V.Watcher.can_stop l.initial.watcher;
}

abbrev pub decreases-loop-schedules : goal.decreases-loop-schedules
decreases-loop-schedules g l = l.times - l.schedules
