use Rattle.std.{proofs.{Common.{◌≡◌, ◌≢◌, true, false, not, ◌||◌, nat_eq, sym, ap, ◌∙◌, subst}, lemmas.Option.slice_get-get_or}, specs.Prelude.Some}
use Rattle.std.specs.List.{slice_get}
use Rattle.scheduled_core.specs.Fitting.{given_by}
use Rattle.every_schedule.{specs.Reduced.keeps, proofs.Alone.{given_kept, itself, keeps_told, one_passes, one_stops}}
use Rattle.every_outcome.proofs.own_moves.is_kept.Goals.{else-place-from-via-else-place-from, else-place-from-via-then-place-from+else-uses}
use Rattle.every_outcome.proofs.own_moves.is_kept.Goals as goal

pub returns-then-uses : goal.returns-then-uses
returns-then-uses c =
    let w = c.args.world.now.world in
    let u = c.args.what in
    let n = c.args.number in
    let f = c.args.by in
    let i = c.loop-place.place in
    let b = c.fiber-item.result in
    let items = c.fibers-fiber-items.result.now in
    let there : slice_get items i ≡ Some b = slice_get-get_or items i b c.loop-place-test.true ∙ ap Some (sym c.fiber-item.is) in
    let at : slice_get w.fibers i ≡ Some b = subst (λ l. slice_get l i ≡ Some b) c.fibers-fiber-items.ensures there in
    let apart : i ≢ f = λ same. c.if-place-from.true (same ∙ sym c.from.ensures) in
    let told = c.uses.ensures.exact (given_by w.cells) (c.requires.fits.each i b at).names in
    let leaves : nat_eq i f || keeps u n b ≡ false = keeps_told u n f i b apart c.uses.result told ∙ ap not c.if-uses.true in
    sym (given_kept u w f n c.requires.given ∙ c.loop-place.invariant ∙ one_stops (keeps u n) f w.fibers i b at leaves)

pub loop-place-preserved : goal.loop-place-preserved
loop-place-preserved c =
    let w = c.args.world.now.world in
    let u = c.args.what in
    let n = c.args.number in
    let f = c.args.by in
    let i = c.loop-place.place in
    let b = c.fiber-item.result in
    let items = c.fibers-fiber-items.result.now in
    let there : slice_get items i ≡ Some b = slice_get-get_or items i b c.loop-place-test.true ∙ ap Some (sym c.fiber-item.is) in
    let at : slice_get w.fibers i ≡ Some b = subst (λ l. slice_get l i ≡ Some b) c.fibers-fiber-items.ensures there in
    let passes : nat_eq i f || keeps u n b ≡ true = elim c.else-place-from.branch [
      | else-place-from-via-then-place-from+else-uses h ↦
          let apart : i ≢ f = λ same. h.if-place-from.true (same ∙ sym c.from.ensures) in
          let told = h.uses.ensures.exact (given_by w.cells) (c.requires.fits.each i b at).names in
          keeps_told u n f i b apart h.uses.result told ∙ ap not h.if-uses.false
      | else-place-from-via-else-place-from h ↦ itself i f (keeps u n b) (h.if-place-from.false ∙ c.from.ensures)
    ] in
    c.loop-place.invariant ∙ one_passes (keeps u n) f w.fibers i b at passes
