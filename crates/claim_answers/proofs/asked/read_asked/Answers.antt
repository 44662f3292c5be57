use Rattle.std.proofs.Common.{◌∙◌, ◌++◌, ◌∷◌, [], ap, map}
use Rattle.claim_answers.specs.Claims.{asked_texts, question_of}
use Rattle.claim_answers.proofs.Pairs.{asked_next}
use Rattle.claim_answers.proofs.asked.read_asked.Goals as goal

pub loop-text-preserved : goal.loop-text-preserved
loop-text-preserved c = (
  asked_next c.args.rule _ c.loop-text.asked.items _ c.args.texts.now c.loop-text.text-index _ c.loop-text-test.true c.loop-text.invariant.0
      (c.in-Ok.ensures.read ∙ ap (λ t. map question_of c.loop-text.asked.items ++ asked_texts c.args.rule (t ∷ [])) c.as_bytes.ensures.value),
  λ made. c.in-Ok.ensures.made (c.loop-text.invariant.1 made),
)
