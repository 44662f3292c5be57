use Rattle.std.proofs.Common.{Bool, Ok, IfOk, codes, subst, sym}
use Rattle.outcome_trace.proofs.AnswerLemmas.{refusal_answers}
use Rattle.comparison_answers.{specs.PairAnswers.Refuses, proofs.PairLemmas.line_refused}
use Rattle.comparison_answers.proofs.pairs.first_refusal.Goals as goal

pub returns-in_ok-refusal-2 : goal.returns-in_ok-refusal-2
returns-in_ok-refusal-2 c =
    let text = c.args.text.now in
    let told = c.in_ok-refusal-2 in
    subst (λ (b : Bool). IfOk c.sided.result (λ a. Refuses b (codes "first") text a.text.items a.status)) (sym c.if-json.false)
    (line_refused (codes "first") text told.field-0.text.items told.field-0.status c.sided.result
    (refusal_answers {E = Unit {0}} text c.args.refused (Ok told.field-0) c.requires told.ensures.line told.ensures.status told.ensures.told)
    c.sided.ensures.text c.sided.ensures.status)
