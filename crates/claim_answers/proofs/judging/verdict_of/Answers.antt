use Rattle.std.proofs.Common.{List, subst, sym}
use Rattle.std.proofs.lemmas.Result.{IfOk-weaker}
use Rattle.world_search.specs.declared.claims.Met.{Met}
use Rattle.claim_answers.specs.Private.Met.{AreMet}
use Rattle.claim_answers.proofs.Looks.{decided_met, decided_unmet}
use Rattle.claim_answers.proofs.judging.verdict_of.Goals as goal

pub returns-in-Some : goal.returns-in-Some
returns-in-Some c =
    let it = c.args.found.now in
    let met = c.as_slice-met.result.now in
    IfOk-weaker c.met_verdict.result _ _
    (λ v h. λ code k wanted words right there.
    decided_met code k wanted words it.complete met c.args.number c.in-Some.at c.index-met-at.result
    (subst (λ (ms : List Met). AreMet code k wanted it.complete ms) (sym c.as_slice-met.ensures.value) right) there c.in-Some.ensures.some
    c.index-met-at.is v h)
    c.met_verdict.ensures

pub returns-in-None : goal.returns-in-None
returns-in-None c = λ code k wanted words right there.
    let it = c.args.found.now in
    let met = c.as_slice-met.result.now in
    rw c.unmet_verdict.ensures
    (decided_unmet code k wanted words it.complete met c.args.number
    (subst (λ (ms : List Met). AreMet code k wanted it.complete ms) (sym c.as_slice-met.ensures.value) right) there c.in-None.ensures.none)
