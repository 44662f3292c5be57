use Rattle.std.proofs.Common.{◌≡◌, true, false, List, sym, ap, ◌∙◌}
use Rattle.std.specs.Prelude.{Some}
use Rattle.std.specs.List.{slice_get}
use Rattle.derived_ops.specs.Expansion.{code_of}
use Rattle.derived_ops.specs.Reading.{source_of}
use Rattle.every_schedule.specs.Claims.{View, first_view}
use Rattle.every_schedule.specs.Places.{first_place}
use Rattle.every_schedule.proofs.Seeing.{core_met}
use Rattle.every_schedule.proofs.claimed.strict_search.Goals as goal

pub returns-clause-unmet : goal.returns-clause-unmet
returns-clause-unmet g c = λ complete i words at unfound schedule met.
    let code = code_of (source_of c.args.program.now) in
    let k = c.args.limits in
    let first = first_view (first_place code k) in
    let there : slice_get c.in_ok-worlds.worlds.views 0 ≡ Some first = ap (λ (l : List View). slice_get l 0) c.in_ok-worlds.ensures in
    let core = core_met code k words schedule met in
    let no : true ≡ false = sym core.2 ∙ c.in_ok-found.ensures.unmet complete first there i words at unfound schedule core.0 core.1 in
    absurd (cc)
