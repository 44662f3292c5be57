use Rattle.std.proofs.Common.{[], ◌∷◌, ◌++◌, ap, ◌∙◌}
use Rattle.every_schedule.specs.declared.exploration.Answer.{Answer}
use Rattle.outcome_answers.specs.SaysFound.{short_in}
use Rattle.outcome_answers.proofs.ShortSays.{short_next}
use Rattle.outcome_answers.proofs.shortening.short_answers.Goals as goal

pub loop-answer-preserved : goal.loop-answer-preserved
loop-answer-preserved c =
    let entries = c.args.entries in
    let now = c.loop-answer.short.items in
    short_next entries c.args.answers.now c.loop-answer.answer-index c.answer-item.result now c.add_short.new.short.items c.loop-answer-test.true
    (c.in_ok-add_short.ensures ∙ ap (λ (a : Answer). now ++ short_in entries (a ∷ [])) c.answer-item.is) c.loop-answer.invariant
