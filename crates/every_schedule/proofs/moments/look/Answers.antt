use Rattle.std.proofs.Common.{◌≡◌, List, arith}
use Rattle.std.specs.Prelude.{Some}
use Rattle.std.specs.List.{slice_get}
use Rattle.std.proofs.lemmas.Grind.{common_steps}
use Rattle.std.proofs.lemmas.Option.{gets}
use Rattle.every_schedule.specs.declared.claims.ClaimWord.{ClaimWord}
use Rattle.every_schedule.proofs.Looking.{adds_none, adds_then, found_more}
use Rattle.every_schedule.proofs.moments.look.Goals as goal

pub loop-number-init : goal.loop-number-init
loop-number-init c = record {
  added = λ code k at. adds_none code k c.args.claims.now c.args.entries.now c.args.met.now.items;
  found = λ code k at. λ i words low is meets. absurd (omega arith);
}

pub loop-number-preserved : goal.loop-number-preserved
loop-number-preserved c =
    let known = c.loop-number.invariant in
    let one = c.in_ok-look_at.ensures in
    let claims = c.args.claims.now in
    let entries = c.args.entries.now in
    let old = c.loop-number.met.items in
    let new = c.look_at.new.met.items in
    let claim : List ClaimWord = c.index-claims-number.result in
    let there : slice_get claims c.loop-number.number ≡ Some claim = grind (arith, common_steps, gets) in
    record {
      added = λ code k at. adds_then code k claims entries c.args.met.now.items old new (known.added code k at) (one.added code k claims at there);
      found = λ code k at. found_more code k claims c.args.world.now c.args.seen.now entries at old new c.loop-number.number claim there
          (one.added code k claims at there).more one.found (known.found code k at);
    }

pub returns-clause-found : goal.returns-clause-found
returns-clause-found c = λ code k at. λ i words low is meets. c.loop-number.invariant.found code k at i words (omega arith) is meets
