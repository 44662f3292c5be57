use Rattle.exploration_text.proofs.Explored.{spellable}
use Rattle.ending_answers.proofs.decided.decide.Goals as goal

pub returns-clause-explored : goal.returns-clause-explored
returns-clause-explored g c =
    let found = c.in-Ok.ensures in
    record {
      all = found.all;
      each = found.each;
      once = found.once;
      stopped = found.stopped;
      halted = found.may;
      room = found.room;
      spare = found.spare;
      short = found.short;
    }

pub returns-clause-spellable : goal.returns-clause-spellable
returns-clause-spellable g c =
    let order = c.args.order.now in
    spellable c.in-Ok.exploration.answers order.bounds.entries order.entries c.in-Ok.ensures.numbers c.in-Ok.ensures.short
