use Rattle.std.{proofs.Common.{◌++◌, ◌∷◌, refl, rules}, specs.{Prelude.string_bytes, Fmt.decimal}}
use Rattle.text_io.{specs.Schedule.{once, repeated}, proofs.WriteLemmas.item_there}
use Rattle.text_io.proofs.schedule_items.item_text.Goals as goal

pub returns-then-times-eq1 : goal.returns-then-times-eq1
returns-then-times-eq1 c = item_there string_bytes c.format.result (decimal c.args.fiber) c.args.fiber c.args.times (search rules)
    record { item = once c.args.fiber; good = c.requires.fiber; text_is = refl; fiber_is = refl; times_is = c.if-times-eq1.true }

pub returns-else-times-eq1 : goal.returns-else-times-eq1
returns-else-times-eq1 c = item_there string_bytes c.format-else-times-eq1.result (decimal c.args.fiber ++ 42 ∷ decimal c.args.times) c.args.fiber
    c.args.times (search rules)
    record {
      item = repeated c.args.fiber c.args.times;
      good = (c.requires.fiber, c.requires.some, c.requires.most);
      text_is = refl;
      fiber_is = refl;
      times_is = refl;
    }
