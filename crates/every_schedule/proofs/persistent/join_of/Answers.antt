use Rattle.std.proofs.Common.{◌≡◌, Bool, List, sym, ap, ◌∙◌}
use Rattle.std.specs.Prelude.{Some}
use Rattle.std.specs.List.{slice_get}
use Rattle.std.proofs.lemmas.Option.{slice_get-get_or}
use Rattle.every_schedule.specs.Persistent.{joined_if}
use Rattle.every_schedule.specs.Private.Persistent.{joined_by}
use Rattle.every_schedule.proofs.Sets.{row_joined}
use Rattle.every_schedule.proofs.persistent.join_of.Goals as goal

pub returns-clause-joined : goal.returns-clause-joined
returns-clause-joined c = λ w are.
    let rows = c.args.rows.now in
    let f = c.args.place in
    let v = c.index-rows-place.result in
    let at : slice_get rows f ≡ Some v = slice_get-get_or rows f v c.requires.place ∙ ap Some (sym c.index-rows-place.is) in
    c.join.ensures.joined ∙ ap (λ (l : List Bool). joined_by l c.args.set.now) c.as_slice.ensures.value ∙ row_joined w rows f v c.args.set.now are at
    ∙ ap (λ (t : Bool). joined_if t w f c.args.set.now) (sym c.if-not-set-place.false)
