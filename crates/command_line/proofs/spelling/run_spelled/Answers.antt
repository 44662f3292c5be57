use Rattle.command_line.proofs.RecordLemmas.{spelled_record}
use Rattle.command_line.proofs.spelling.run_spelled.Goals as goal

pub returns-clause-recorded : goal.returns-clause-recorded
returns-clause-recorded g c =
    spelled_record _ _ c.run_recorded-end.result.schedule c.spell-schedule.result _ c.run_recorded-end.ensures.recorded c.spell-schedule.ensures
