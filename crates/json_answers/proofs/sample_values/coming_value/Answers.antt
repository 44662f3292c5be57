use Rattle.std.proofs.Common.{subst, sym}
use Rattle.text_io.specs.Schedule.{SpellsEntries}
use Rattle.json_answers.proofs.FoundValues.{coming_found}
use Rattle.json_answers.proofs.sample_values.coming_value.Goals as goal

pub returns : goal.returns
returns c =
    let text = c.as_str.result.now in
    let entries = c.args.coming.now.answer.schedule in
    coming_found c.args.wants.now c.args.coming.now text c.came_value.result
    (subst (λ xs. SpellsEntries xs entries) (sym c.as_str.ensures.value) (rw c.as_slice.ensures at c.in_ok-schedule.ensures))
    (rw c.is_unwanted.ensures at c.came_value.ensures)
