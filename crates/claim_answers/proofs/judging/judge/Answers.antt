use Rattle.std.proofs.Common.{List, [], arith, subst, sym}
use Rattle.derived_ops.specs.Expansion.{code_of}
use Rattle.derived_ops.specs.Reading.{source_of}
use Rattle.claim_answers.specs.declared.judging.Verdict.{Verdict}
use Rattle.claim_answers.specs.Claims.{IsDecided, Pairwise, no_pair}
use Rattle.claim_answers.proofs.Pairs.{pairs_all, pairs_found}
use Rattle.claim_answers.proofs.judging.judge.Goals as goal

pub loop-number-init : goal.loop-number-init
loop-number-init c =
    subst (λ (vs : List Verdict). Pairwise (IsDecided (code_of (source_of c.args.program.now)) c.args.limits) [] vs) (sym c.new-verdicts.ensures.items)
    no_pair

pub loop-number-preserved : goal.loop-number-preserved
loop-number-preserved c =
    let code = code_of (source_of c.args.program.now) in
    pairs_found (IsDecided code c.args.limits) c.args.soughts.now c.loop-number.verdicts.items _ c.loop-number.number _ (omega arith)
    c.in_ok-push.ensures.items
    (λ words there. c.in_ok-verdict_of.ensures code c.args.limits c.args.soughts.now words c.in_ok-found.ensures there)
    c.loop-number.invariant

pub returns : goal.returns
returns c =
    pairs_all (IsDecided (code_of (source_of c.args.program.now)) c.args.limits) c.args.soughts.now c.loop-number.verdicts.items c.loop-number.number
    (omega arith) c.loop-number.invariant
