use Rattle.std.proofs.Common.{◌≡◌, true, false, List, sym, ap, ◌∙◌, subst, arith}
use Rattle.std.specs.Prelude.{Some}
use Rattle.std.specs.List.{slice_get}
use Rattle.derived_ops.specs.Expansion.{code_of}
use Rattle.derived_ops.specs.Reading.{source_of}
use Rattle.cell_registry.specs.declared.limits.Limits.{Limits}
use Rattle.world_search.specs.declared.claims.Met.{Met}
use Rattle.world_search.specs.Claims.{IsFew, IsFound}
use Rattle.every_schedule.specs.Claims.{View, first_view}
use Rattle.every_schedule.proofs.{Certified.all_kept}
use Rattle.every_outcome.specs.Outcomes.{counted}
use Rattle.every_outcome.specs.Places.{first_place}
use Rattle.every_outcome.proofs.Moments.{core_met}
use Rattle.every_outcome.proofs.Seen.{unmet_all}
use Rattle.every_outcome.proofs.claimed.search_outcome_claims.Goals as goal

pub returns-clause-unmet : goal.returns-clause-unmet
returns-clause-unmet g c = λ complete i words at unfound n schedule met.
    let code = code_of (source_of c.args.program.now) in
    let k : Limits = counted c.args.limits 1099511627775 in
    let first = first_view (first_place false code k) in
    let raw : List Met = c.in_ok-found.found.met.items in
    let there : slice_get c.in_ok-worlds.worlds.views 0 ≡ Some first = ap (λ (l : List View). slice_get l 0) c.in_ok-worlds.ensures.views in
    let none = λ (f : IsFound i raw).
    unfound (subst (λ (l : List Met). IsFound i l) (sym (c.in_ok-certified.ensures.whole complete)) (subst (λ m. IsFound m c.in_ok-met.met.items) f.2
    (c.in_ok-met.ensures.all f.1.0 f.0 (subst (λ (l : List Met). slice_get l f.1.0 ≡ Some f.0) (sym c.as_slice.ensures.value) f.1.1)))) in
    let both = c.are_both.ensures (c.in_ok-certified.ensures.complete complete) in
    let reduced = c.in_ok-found.ensures.unmet both.0 first there i words at none in
    let core = core_met code k (omega arith) c.in_ok-worlds.ensures.reached words (c.in_ok-sure.ensures both.1 i words at) n schedule met in
    let no : true ≡ false = sym core.2 ∙ unmet_all words first reduced schedule core.0 core.1 in
    absurd (cc)

pub returns-clause-numbers : goal.returns-clause-numbers
returns-clause-numbers g c =
    all_kept (IsFew 1000) c.in_ok-certified.certified.met.items c.in_ok-met.met.items c.in_ok-certified.ensures.kept c.in_ok-met.ensures.numbers
