use Rattle.command_line.proofs.RecordLemmas.{entries_found}
use Rattle.command_line.proofs.record_answers.entries_of.Goals as goal

pub returns-in-Ok-read_schedule-clause-some : goal.returns-in-Ok-read_schedule-clause-some
returns-in-Ok-read_schedule-clause-some c =
    entries_found _ _ _ _ c.in-Ok.is c.as_str.ensures.value c.in-Ok-read_schedule.ensures.one_list
