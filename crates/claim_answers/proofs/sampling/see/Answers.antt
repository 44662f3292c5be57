use Rattle.std.proofs.Common.{List, [], arith, subst, sym}
use Rattle.derived_ops.specs.Expansion.{code_of}
use Rattle.derived_ops.specs.Reading.{source_of}
use Rattle.world_search.specs.declared.claims.Met.{Met}
use Rattle.claim_answers.specs.declared.judging.Verdict.{Verdict}
use Rattle.claim_answers.specs.Claims.{Pairwise, no_pair}
use Rattle.claim_answers.specs.Drawn.{IsSeen}
use Rattle.claim_answers.specs.Private.Met.{IsFoundAs}
use Rattle.claim_answers.proofs.Pairs.{pairs_all, pairs_found}
use Rattle.claim_answers.proofs.Seen.{seen_as}
use Rattle.claim_answers.proofs.sampling.see.Goals as goal

pub loop-number-init : goal.loop-number-init
loop-number-init c = λ looked.
    subst (λ (vs : List Verdict). Pairwise (IsSeen (code_of (source_of c.args.program.now)) c.args.order.now.limits looked.drawn) [] vs)
    (sym c.new-verdicts.ensures.items) no_pair

pub loop-number-preserved : goal.loop-number-preserved
loop-number-preserved c = λ looked.
    let code = code_of (source_of c.args.program.now) in
    let o = c.args.order.now in
    let right = c.in_ok-met.ensures in
    let met = c.in_ok-met.met.items in
    let n = c.loop-number.number in
    let v = c.in_ok-verdict_of.field-0 in
    let found = subst (λ (ms : List Met). IsFoundAs ms n v) c.as_slice.ensures.value c.in_ok-verdict_of.ensures in
    pairs_found (IsSeen code o.limits looked.drawn) c.args.soughts.now c.loop-number.verdicts.items _ n _ (omega arith) c.in_ok-push.ensures.items
    (λ words there. seen_as code o.limits c.args.soughts.now o.entries o.times met right.met right.numbers right.short o.spelled looked n words there v found)
    (c.loop-number.invariant looked)

pub returns : goal.returns
returns c =
    let code = code_of (source_of c.args.program.now) in
    let looked = c.in_ok-met.ensures.unmet in
    record {
      drawn = looked.drawn;
      many = looked.many;
      each = looked.each;
      seen = pairs_all (IsSeen code c.args.order.now.limits looked.drawn) c.args.soughts.now c.loop-number.verdicts.items c.loop-number.number
          (omega arith) (c.loop-number.invariant looked);
    }
