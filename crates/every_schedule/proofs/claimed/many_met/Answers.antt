use Rattle.std.proofs.Common.{subst, sym, length, ◌≤◌, ◌∙◌, List, arith}
use Rattle.std.proofs.lemmas.List.{take_all}
use Rattle.std.specs.List.{All}
use Rattle.std.proofs.lemmas.List.Elements.{All-more}
use Rattle.derived_ops.specs.Expansion.{code_of}
use Rattle.derived_ops.specs.Reading.{source_of}
use Rattle.world_search.specs.declared.claims.Met.{Met}
use Rattle.every_schedule.specs.Claims.{IsMetIn}
use Rattle.every_schedule.proofs.claimed.many_met.Goals as goal

pub loop-i-preserved : goal.loop-i-preserved
loop-i-preserved c =
    let P = IsMetIn (code_of (source_of c.args.program.now)) c.args.limits c.args.claims.now in
    let found = c.args.found.now in
    let it : Met = c.index-found-i.result in
    All-more P found c.loop-i.i it c.loop-i-test.true c.loop-i.invariant
    (subst P c.index-found-i.is (c.in_ok-met.ensures.met c.if-not-met.false))

pub returns-clause-met : goal.returns-clause-met
returns-clause-met c =
    let P = IsMetIn (code_of (source_of c.args.program.now)) c.args.limits c.args.claims.now in
    let found = c.args.found.now in
    let past : length found ≤ c.loop-i.i = omega arith in
    let long : length found ≤ length found = omega arith in
    subst (λ (l : List Met). All P l) (take_all c.loop-i.i found past ∙ sym (take_all (length found) found long)) c.loop-i.invariant
