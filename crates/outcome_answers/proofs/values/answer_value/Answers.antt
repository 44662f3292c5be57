use Rattle.std.proofs.Common.{subst, sym}
use Rattle.text_io.specs.Schedule.{SpellsEntries}
use Rattle.outcome_answers.proofs.BareValues.{answer_found}
use Rattle.outcome_answers.proofs.values.answer_value.Goals as goal

pub returns : goal.returns
returns c =
    let text = c.as_str.result.now in
    let entries = c.args.answer.now.schedule in
    answer_found c.args.says c.args.unwanted c.args.answer.now text c.found_value.result
    (subst (λ xs. SpellsEntries xs entries) (sym c.as_str.ensures.value) (rw c.as_slice.ensures at c.in_ok-schedule.ensures))
    c.found_value.ensures
