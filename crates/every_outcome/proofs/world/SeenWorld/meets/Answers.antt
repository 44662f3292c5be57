use Rattle.std.proofs.Common.{◌≡◌, ◌&&◌, refl, ap, ◌∙◌, subst}
use Rattle.std.specs.Prelude.{IfOk}
use Rattle.std.proofs.lemmas.Result.{IfOk-weaker}
use Rattle.cell_registry.specs.Plain.{PlainView}
use Rattle.every_schedule.specs.Claims.{are_seen, holds, is_met}
use Rattle.every_schedule.specs.declared.progress.Progress.TheVariants.{GoesOn}
use Rattle.every_schedule.proofs.SeenLeaps.{holds_refs}
use Rattle.every_outcome.specs.Places.{Place, unmarked_world, with_says}
use Rattle.every_outcome.proofs.world.SeenWorld.meets.Goals as goal

pub returns : goal.returns
returns g c =
    let says = with_says g.row.SAYS in
    let w = c.self.inside.core in
    let words = c.args.claim.now in
    let seen = c.args.seen.now in
    let cells = c.in_ok-registry.registry.state in
    let copied : cells ≡ w.world.cells = ap (λ (v : PlainView). v.state) (c.in_ok-registry.ensures.same ∙ c.registry.ensures) in
    let same : holds GoesOn cells words ≡ holds GoesOn (unmarked_world says w.world).cells words =
    ap (λ s. holds GoesOn s words) copied ∙ holds_refs GoesOn w.world.cells (unmarked_world says w.world).cells refl words in
    subst (λ (p : Place). IfOk c.is_met.result (λ it. it ≡ is_met GoesOn record { place = p; seen = seen } words)) c.self.view_is
    (IfOk-weaker c.is_met.result _ _ (λ it is. is ∙ ap (λ t. are_seen seen words && t) same) c.is_met.ensures)
