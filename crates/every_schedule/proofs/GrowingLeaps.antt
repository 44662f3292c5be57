-- Reports grow along the entries of the reduced exploration, too.
use Rattle.std.proofs.Common.{[], ◌∷◌, ◌∙◌}
use Rattle.world_search.specs.Free.{AreGrowing}
use Rattle.world_search.proofs.Free.{grown}
use Rattle.every_schedule.specs.Places.{report_at, stepped}
use Rattle.every_schedule.specs.declared.leaping.AtOnce.{AtOnce}
use Rattle.every_schedule.specs.Persistent.{chosen}
use Rattle.every_schedule.proofs.Bare.{reports_grow}
use Rattle.every_schedule.proofs.Chosen.{chosen_reduces}
use Rattle.every_schedule.proofs.Growing.{size}
use Rattle.std.specs.Prelude.{Ok}

pub chosen_grow : (n : AtOnce) → AreGrowing (chosen n) report_at size
chosen_grow n p f q e =
    let led = (chosen_reduces n).unfolded (Ok p) (f ∷ []) in
    grown stepped report_at size reports_grow led.0 p q (led.1 ∙ e)
