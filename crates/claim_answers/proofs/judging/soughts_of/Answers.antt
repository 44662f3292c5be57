use Rattle.std.proofs.Common.{List, [], arith, subst, sym}
use Rattle.every_schedule.specs.declared.claims.ClaimWord.{ClaimWord}
use Rattle.claim_answers.specs.Claims.{IsSought, Pairwise, no_pair}
use Rattle.claim_answers.proofs.Pairs.{pairs_all, pairs_more}
use Rattle.claim_answers.proofs.judging.soughts_of.Goals as goal

pub loop-one-init : goal.loop-one-init
loop-one-init c =
    subst (λ (ss : List (List ClaimWord)). Pairwise (IsSought c.args.text.now) [] ss) (sym c.new-soughts.ensures.items) no_pair

pub loop-one-preserved : goal.loop-one-preserved
loop-one-preserved c =
    pairs_more (IsSought c.args.text.now) c.args.asked.now c.loop-one.soughts.items _ c.loop-one.one-index c.one-item.result _ (omega arith) c.one-item.is
    c.in_ok-push_sought.ensures c.in_ok-sought_of.ensures c.loop-one.invariant

pub returns : goal.returns
returns c = pairs_all (IsSought c.args.text.now) c.args.asked.now c.loop-one.soughts.items c.loop-one.one-index (omega arith) c.loop-one.invariant
