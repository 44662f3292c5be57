use Rattle.std.proofs.Common.{refl, sym, ◌∙◌}
use Rattle.every_schedule.proofs.Sets.{spread_next, spread_none}
use Rattle.every_schedule.proofs.persistent.spread_once.Goals as goal

pub loop-place-init : goal.loop-place-init
loop-place-init c = record { spread = λ w are. sym (spread_none w c.args.set.now); stays = λ e. refl }

pub loop-place-preserved : goal.loop-place-preserved
loop-place-preserved c =
    let known = c.loop-place.invariant in
    let told = c.join_of-joined.ensures in
    record {
      spread = λ w are. spread_next w c.loop-place.place c.args.set.now c.loop-place.set c.join_of-joined.new.set (known.spread w are) (told.joined w are);
      stays = λ none. let both = c.either-any.ensures none in told.stays both.1 ∙ known.stays both.0;
    }
