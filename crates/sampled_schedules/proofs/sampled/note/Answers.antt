use Rattle.std.{proofs.{Common.{◌≡◌, List, slice_set, ap, ◌∙◌, subst, arith}, lemmas.Option.get_or_from_slice_get}, specs.{Prelude.Some, List.slice_get}}
use Rattle.sampled_schedules.{specs.{declared.comings.Coming.Coming, Private.Noting.{Again, raised}}, proofs.Tallies.one_of}
use Rattle.sampled_schedules.proofs.sampled.note.Goals as goal

pub raise-requires : goal.raise-requires
raise-requires c =
    let cs = c.args.comings.now.items in
    let it = c.in-Some.ensures.some in
    let at : slice_get cs c.in-Some.place ≡ Some it.0 = subst (λ (l : List Coming). slice_get l c.in-Some.place ≡ Some it.0) c.as_slice.ensures.value it.1 in
    let same : c.index_mut.result.now ≡ it.0 = c.index_mut.ensures.value ∙ get_or_from_slice_get cs c.in-Some.place it.0 c.index_mut.result.now at in
    let times : c.index_mut.result.now.times ≡ it.0.times = ap (λ (x : Coming). x.times) same in
    let low = one_of cs c.in-Some.place it.0 at in
    omega (arith, c.requires)

pub returns-in-Some : goal.returns-in-Some
returns-in-Some c =
    let cs = c.args.comings.now.items in
    let cut = c.args.drawn.cut in
    let it = c.in-Some.ensures.some in
    let at : slice_get cs c.in-Some.place ≡ Some it.0 = subst (λ (l : List Coming). slice_get l c.in-Some.place ≡ Some it.0) c.as_slice.ensures.value it.1 in
    let same : c.index_mut.result.now ≡ it.0 = c.index_mut.ensures.value ∙ get_or_from_slice_get cs c.in-Some.place it.0 c.index_mut.result.now at in
    Again c.in-Some.place it.0 at it.2
    (ap (λ (x : Coming). slice_set cs c.in-Some.place x) (c.raise.ensures ∙ ap (λ (x : Coming). raised x cut) same))
