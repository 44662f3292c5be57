use Rattle.std.proofs.Common.{◌∙◌, inl, inr, subst, List, ℕ}
use Rattle.std.proofs.lemmas.Result.{IfOk-weaker}
use Rattle.claim_answers.specs.Claims.{IsSought, Pairwise}
use Rattle.claim_answers.proofs.Pairs.{pairs_length}
use Rattle.claim_answers.proofs.answering.judged_answer.Goals as goal

pub sought_answer-requires : goal.sought_answer-requires
sought_answer-requires c = pairs_length (IsSought c.as_slice.result.now) _ _ c.in-Ok.ensures

pub returns-in-Ok : goal.returns-in-Ok
returns-in-Ok c =
    let spaced = c.as_slice.ensures.value ∙ c.in_ok-spaced.ensures in
    let sought = subst (λ (s : List ℕ). Pairwise (IsSought s) c.args.asked.now c.in-Ok.soughts.items) spaced c.in-Ok.ensures in
    IfOk-weaker c.sought_answer.result _ _ (λ n h. inl (h c.args.text.now sought)) c.sought_answer.ensures

pub returns-in-Err-Unknown : goal.returns-in-Err-Unknown
returns-in-Err-Unknown c = IfOk-weaker c.unnamed_answer.result _ _ (λ n h. inr h) c.unnamed_answer.ensures
