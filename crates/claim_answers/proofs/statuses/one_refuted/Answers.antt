use Rattle.std.proofs.Common.{◌∙◌, ap, arith, sym}
use Rattle.claim_answers.specs.Verdicts.{is_refuted}
use Rattle.claim_answers.proofs.Pairs.{refuted_later, refuted_never, refuted_now}
use Rattle.claim_answers.proofs.statuses.one_refuted.Goals as goal

pub loop-at-preserved : goal.loop-at-preserved
loop-at-preserved c =
    refuted_later c.args.asked.now c.args.verdicts.now c.loop-at.at c.index-asked-at.result c.index-verdicts-at.result (omega arith) c.index-asked-at.is
    (omega arith) c.index-verdicts-at.is (ap (λ a. is_refuted a.rule c.index-verdicts-at.result) c.index-asked-at.is ∙ sym c.is_refuted.ensures ∙ c.if-is_refuted.false) c.loop-at.invariant

pub returns-then-is_refuted : goal.returns-then-is_refuted
returns-then-is_refuted c =
    refuted_now c.args.asked.now c.args.verdicts.now c.loop-at.at c.index-asked-at.result c.index-verdicts-at.result (omega arith) c.index-asked-at.is
    (omega arith) c.index-verdicts-at.is (ap (λ a. is_refuted a.rule c.index-verdicts-at.result) c.index-asked-at.is ∙ sym c.is_refuted.ensures ∙ c.if-is_refuted.true) c.loop-at.invariant

pub returns : goal.returns
returns c = refuted_never c.args.asked.now c.args.verdicts.now c.loop-at.at (omega arith) c.loop-at.invariant
