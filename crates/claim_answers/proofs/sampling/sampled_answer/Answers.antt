use Rattle.claim_answers.proofs.sampling.sampled_answer.Goals as goal

pub returns-then-json : goal.returns-then-json
returns-then-json c = rw c.if-json.true c.noted_answer.ensures

pub returns-else-json : goal.returns-else-json
returns-else-json c = rw c.if-json.false c.noted_answer-else-json.ensures
