use Rattle.std.proofs.Common.{◌∙◌}
use Rattle.text_io.proofs.TellingLemmas.{schedule_refused}
use Rattle.text_io.proofs.telling.refuse_schedule.Goals as goal

pub returns : goal.returns
returns g c =
    let told = c.write_text.ensures in
    schedule_refused c.args.error c.in-BadSchedule.place c.as_bytes.result.now _ _ c.write_text.result c.in-BadSchedule.is
    (c.as_bytes.ensures.value ∙ c.as_str.ensures.value ∙ c.schedule_line.ensures) told.text told.only told.failed
