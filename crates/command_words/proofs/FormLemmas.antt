-- Options that ask for two forms at once ask for none.
use Rattle.std.proofs.Common.{Bool, List, codes, false, true}
use Rattle.clap.specs.Words.{Row}
use Rattle.command_words.specs.declared.replay.AnswerForm.{AnswerForm}
use Rattle.command_words.specs.declared.replay.AnswerForm.TheVariants.{Report, Timeline, Picture, Json}
use Rattle.command_words.specs.declared.exploring.Beside.{Beside}
use Rattle.command_words.specs.declared.exploring.Beside.TheVariants as beside
use Rattle.command_words.specs.declared.exploring.ExploreForm.{ExploreForm}
use Rattle.command_words.specs.declared.exploring.ExploreForm.TheVariants as explores
use Rattle.command_words.specs.declared.running.RunForm.{RunForm}
use Rattle.command_words.specs.declared.running.RunForm.TheVariants as runs
use Rattle.command_words.specs.Flags.{IsGiven, IsLeftOut, SaysBeside, SaysExploreForm, SaysForm, SaysRunForm}

pub timeline_with_svg : (options : List Row) → IsGiven (codes "timeline") options → IsGiven (codes "svg") options → (form : AnswerForm) →
    SaysForm options form → ⊥
timeline_with_svg options timeline svg Report says = says.0 timeline
timeline_with_svg options timeline svg Timeline says = says.1 svg
timeline_with_svg options timeline svg Picture says = says.0 timeline
timeline_with_svg options timeline svg Json says = says.0 timeline

pub timeline_with_json : (options : List Row) → IsGiven (codes "timeline") options → IsGiven (codes "json") options → (form : AnswerForm) →
    SaysForm options form → ⊥
timeline_with_json options timeline json Report says = says.0 timeline
timeline_with_json options timeline json Timeline says = says.2 json
timeline_with_json options timeline json Picture says = says.0 timeline
timeline_with_json options timeline json Json says = says.0 timeline

pub svg_with_json : (options : List Row) → IsGiven (codes "svg") options → IsGiven (codes "json") options → (form : AnswerForm) → SaysForm options form → ⊥
svg_with_json options svg json Report says = says.1 svg
svg_with_json options svg json Timeline says = says.1 svg
svg_with_json options svg json Picture says = says.2 json
svg_with_json options svg json Json says = says.1 svg

-- ---- of `explore`
pub explored_timeline_with_json : (options : List Row) → IsGiven (codes "timeline") options → IsGiven (codes "json") options → (form : ExploreForm) →
    SaysExploreForm options form → ⊥
explored_timeline_with_json options timeline json explores.Report says = says.0 timeline
explored_timeline_with_json options timeline json explores.Timeline says = says.1 json
explored_timeline_with_json options timeline json explores.Json says = says.0 timeline

pub progress_with_reasons : (options : List Row) → IsGiven (codes "progress") options → IsGiven (codes "explain") options → (form : Beside) →
    SaysBeside options form → ⊥
progress_with_reasons options progress asked beside.Nothing says = says.0 progress
progress_with_reasons options progress asked beside.Progress says = says.1 asked
progress_with_reasons options progress asked beside.Reasons says = says.0 progress

-- ---- of `run`
pub record_with_json : (options : List Row) → IsGiven (codes "record") options → IsGiven (codes "json") options → (form : RunForm) (explain : Bool) →
    SaysRunForm options form explain → ⊥
record_with_json options recorded json runs.Report explain says = says.0 recorded
record_with_json options recorded json runs.Record false says = says.2 json
record_with_json options recorded json runs.Record true says = says
record_with_json options recorded json runs.Timeline false says = says.2 json
record_with_json options recorded json runs.Timeline true says = says
record_with_json options recorded json runs.Json false says = says.0 recorded
record_with_json options recorded json runs.Json true says = says

pub record_with_reasons : (options : List Row) → IsGiven (codes "record") options → IsGiven (codes "explain") options →
    (form : RunForm) (explain : Bool) → SaysRunForm options form explain → ⊥
record_with_reasons options recorded asked runs.Report explain says = says.0 recorded
record_with_reasons options recorded asked runs.Record false says = says.3 asked
record_with_reasons options recorded asked runs.Record true says = says
record_with_reasons options recorded asked runs.Timeline false says = says.3 asked
record_with_reasons options recorded asked runs.Timeline true says = says
record_with_reasons options recorded asked runs.Json false says = says.0 recorded
record_with_reasons options recorded asked runs.Json true says = says

pub timeline_without_record : (options : List Row) → IsGiven (codes "timeline") options → IsLeftOut (codes "record") options →
    (form : RunForm) (explain : Bool) → SaysRunForm options form explain → ⊥
timeline_without_record options timeline none runs.Report explain says = says.1 timeline
timeline_without_record options timeline none runs.Record false says = none says.0
timeline_without_record options timeline none runs.Record true says = says
timeline_without_record options timeline none runs.Timeline false says = none says.0
timeline_without_record options timeline none runs.Timeline true says = says
timeline_without_record options timeline none runs.Json false says = says.1 timeline
timeline_without_record options timeline none runs.Json true says = says

pub json_with_reasons : (options : List Row) → IsGiven (codes "json") options → IsGiven (codes "explain") options →
    (form : RunForm) (explain : Bool) → SaysRunForm options form explain → ⊥
json_with_reasons options json asked runs.Report explain says = says.2 json
json_with_reasons options json asked runs.Record false says = says.2 json
json_with_reasons options json asked runs.Record true says = says
json_with_reasons options json asked runs.Timeline false says = says.2 json
json_with_reasons options json asked runs.Timeline true says = says
json_with_reasons options json asked runs.Json false says = says.3 asked
json_with_reasons options json asked runs.Json true says = says
