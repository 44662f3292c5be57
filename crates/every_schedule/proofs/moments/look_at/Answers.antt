use Rattle.std.proofs.Common.{◌≡◌, List, true, false, sym, ap, ◌∙◌, subst}
use Rattle.std.specs.Prelude.{Some}
use Rattle.std.specs.List.{slice_get}
use Rattle.world_search.specs.declared.claims.Met.{Met}
use Rattle.world_search.specs.Claims.{IsFound}
use Rattle.every_schedule.specs.declared.claims.ClaimWord.{ClaimWord}
use Rattle.every_schedule.specs.Claims.{Meets}
use Rattle.every_schedule.proofs.Looking.{adds_none, adds_one, found_last, met_here}
use Rattle.every_schedule.proofs.moments.look_at.Goals as goal

pub returns-then-has_claim-clause-added : goal.returns-then-has_claim-clause-added
returns-then-has_claim-clause-added c = λ code k claims at there. adds_none code k claims c.args.entries.now c.args.met.now.items

pub returns-then-not-here-clause-added : goal.returns-then-not-here-clause-added
returns-then-not-here-clause-added c = λ code k claims at there. adds_none code k claims c.args.entries.now c.args.met.now.items

pub returns-then-has_claim-clause-found : goal.returns-then-has_claim-clause-found
returns-then-has_claim-clause-found c = λ is.
    subst (λ (ms : List Met). IsFound c.args.number ms) c.as_slice.ensures.value (c.has_claim.ensures c.if-has_claim.true)

pub returns-then-not-here-clause-found : goal.returns-then-not-here-clause-found
returns-then-not-here-clause-found c = λ is.
    let no : true ≡ false = sym is ∙ sym c.in_ok-here.ensures ∙ c.if-not-here.true in
    absurd (cc)

pub returns-clause-added : goal.returns-clause-added
returns-clause-added c = λ code k claims at there.
    let one = c.in_ok-add.ensures in
    let words : List ClaimWord = c.args.claim.now in
    let entries = c.args.entries.now in
    let is = sym c.in_ok-here.ensures ∙ c.if-not-here.false in
    let here : slice_get claims one.0.claim ≡ Some words = ap (slice_get claims) one.2 ∙ there in
    let meets = subst (λ s. Meets code k words s) (sym one.3) (met_here code k claims c.args.world.now c.args.seen.now entries at words is) in
    adds_one code k claims entries c.args.met.now.items c.add.new.met.items one.0 one.1 one.3 (words, here, meets)

pub returns-clause-found : goal.returns-clause-found
returns-clause-found c = λ is.
    let one = c.in_ok-add.ensures in found_last c.args.number c.args.met.now.items c.add.new.met.items one.0 one.1 one.2
