use Rattle.std.proofs.Common.{◌≡◌, List, sym, ap, subst}
use Rattle.std.specs.Prelude.{Some}
use Rattle.std.specs.List.{slice_get}
use Rattle.derived_ops.specs.Expansion.{code_of}
use Rattle.derived_ops.specs.Reading.{source_of}
use Rattle.world_search.specs.declared.claims.Met.{Met}
use Rattle.world_search.specs.Claims.{IsFound}
use Rattle.every_schedule.specs.Claims.{View, first_view}
use Rattle.every_schedule.specs.Places.{first_place}
use Rattle.every_schedule.proofs.Seeing.{core_met}
use Rattle.every_schedule.proofs.SeenLeaps.{unmet_all}
use Rattle.every_schedule.proofs.claimed.still_search.Goals as goal

pub returns-clause-unmet : goal.returns-clause-unmet
returns-clause-unmet g c = λ complete i words at unfound schedule met.
    let code = code_of (source_of c.args.program.now) in
    let k = c.args.limits in
    let first = first_view (first_place code k) in
    let raw : List Met = c.in_ok-found.found.met.items in
    let there : slice_get c.in_ok-worlds.worlds.views 0 ≡ Some first = ap (λ (l : List View). slice_get l 0) c.in_ok-worlds.ensures in
    let none = λ (f : IsFound i raw).
    unfound (subst (λ n. IsFound n c.in_ok-met.met.items) f.2
    (c.in_ok-met.ensures.all f.1.0 f.0 (subst (λ (l : List Met). slice_get l f.1.0 ≡ Some f.0) (sym c.as_slice.ensures.value) f.1.1))) in
    let reduced = c.in_ok-found.ensures.unmet complete first there i words at none in
    let core = core_met code k words schedule met in
    unmet_all words (c.requires.up i words at) first reduced schedule core.0 core.1 core.2
