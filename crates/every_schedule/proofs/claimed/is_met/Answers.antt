use Rattle.std.proofs.Common.{◌≡◌, ℕ, List, Some, subst, arith}
use Rattle.std.specs.List.{slice_get}
use Rattle.std.proofs.lemmas.Grind.{common_steps}
use Rattle.std.proofs.lemmas.Option.{gets}
use Rattle.derived_ops.specs.Expansion.{code_of}
use Rattle.derived_ops.specs.Reading.{source_of}
use Rattle.every_schedule.specs.declared.claims.ClaimWord.{ClaimWord}
use Rattle.every_schedule.specs.Claims.{Meets}
use Rattle.every_schedule.proofs.claimed.is_met.Goals as goal

pub returns-clause-met : goal.returns-clause-met
returns-clause-met c = λ yes.
    let words : List ClaimWord = c.index-claims-found.result in
    let at : slice_get c.args.claims.now c.args.found.now.claim ≡ Some words = grind (arith, common_steps, gets) in
    let meets = subst (λ (s : List ℕ). Meets (code_of (source_of c.args.program.now)) c.args.limits words s) c.as_slice.ensures.value
    (c.in_ok-met.ensures.meets yes) in
    (words, at, meets)
