use Rattle.std.proofs.Common.{◌∙◌, inl, inr, subst, List, ℕ}
use Rattle.std.proofs.lemmas.Result.{IfOk-weaker}
use Rattle.claim_answers.specs.Claims.{IsSought, Pairwise}
use Rattle.claim_answers.proofs.Pairs.{pairs_length}
use Rattle.claim_answers.proofs.sampling.named_answer.Goals as goal

pub seen_answer-requires : goal.seen_answer-requires
seen_answer-requires c = pairs_length (IsSought c.as_slice.result.now) _ _ c.in-Ok.ensures

pub returns-in-Ok : goal.returns-in-Ok
returns-in-Ok c =
    let spaced = c.as_slice.ensures.value ∙ c.in_ok-spaced.ensures in
    let sought = subst (λ (s : List ℕ). Pairwise (IsSought s) c.args.asked.now c.in-Ok.soughts.items) spaced c.in-Ok.ensures in
    IfOk-weaker c.seen_answer.result _ _ (λ n h. inl (h c.args.text.now sought)) c.seen_answer.ensures

pub returns-in-Err-Unknown : goal.returns-in-Err-Unknown
returns-in-Err-Unknown c = IfOk-weaker c.unnamed_answer.result _ _ (λ n h. inr h) c.unnamed_answer.ensures
