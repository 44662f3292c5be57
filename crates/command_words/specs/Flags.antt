-- The flags in the words, and the forms that they ask for.
use Rattle.std.specs.Prelude.{◌≡◌, Bool, true, false, List, None, Option, Some, codes}
use Rattle.clap.specs.Words.{Row, Text, first_of}
use Rattle.command_words.specs.declared.exploring.Beside.{Beside}
use Rattle.command_words.specs.declared.exploring.Beside.TheVariants as beside
use Rattle.command_words.specs.declared.exploring.ExploreForm.{ExploreForm}
use Rattle.command_words.specs.declared.exploring.ExploreForm.TheVariants as explores
use Rattle.command_words.specs.declared.marks.Marks.{Marks}
use Rattle.command_words.specs.declared.marks.Marks.TheVariants as kept
use Rattle.command_words.specs.declared.replay.AnswerForm.{AnswerForm}
use Rattle.command_words.specs.declared.replay.AnswerForm.TheVariants.{Report, Timeline, Picture, Json}
use Rattle.command_words.specs.declared.running.RunForm.{RunForm}
use Rattle.command_words.specs.declared.running.RunForm.TheVariants as runs
use Rattle.command_words.specs.declared.testing.Coloring.{Coloring}
use Rattle.command_words.specs.declared.testing.Coloring.TheVariants.{Auto, Always, Never}
use Rattle.command_words.specs.declared.testing.TestForm.{TestForm}
use Rattle.command_words.specs.declared.testing.TestForm.TheVariants as tests

-- the flag is given
abbrev pub IsGiven : Text → List Row → Type 0
IsGiven name options = first_of name options ≡ Some (codes "true")

-- the flag isn't given
abbrev pub IsLeftOut : Text → List Row → Type 0
IsLeftOut name options = IsGiven name options → ⊥

-- whether the flag is given
abbrev pub SaysFlag : Text → List Row → Bool → Type 0
SaysFlag name options true = IsGiven name options
SaysFlag name options false = IsLeftOut name options

-- the form that the options of `replay` ask for: that of the only one of three flags that is given, or a report
abbrev pub SaysForm : List Row → AnswerForm → Type 0
SaysForm options Report =
    IsLeftOut (codes "timeline") options × IsLeftOut (codes "svg") options × IsLeftOut (codes "json") options
SaysForm options Timeline =
    IsGiven (codes "timeline") options × IsLeftOut (codes "svg") options × IsLeftOut (codes "json") options
SaysForm options Picture =
    IsLeftOut (codes "timeline") options × IsGiven (codes "svg") options × IsLeftOut (codes "json") options
SaysForm options Json =
    IsLeftOut (codes "timeline") options × IsLeftOut (codes "svg") options × IsGiven (codes "json") options

-- the form that the options of `explore` ask for: that of the only one of two flags that is given, or a list
abbrev pub SaysExploreForm : List Row → ExploreForm → Type 0
SaysExploreForm options explores.Report = IsLeftOut (codes "timeline") options × IsLeftOut (codes "json") options
SaysExploreForm options explores.Timeline = IsGiven (codes "timeline") options × IsLeftOut (codes "json") options
SaysExploreForm options explores.Json = IsLeftOut (codes "timeline") options × IsGiven (codes "json") options

-- what is written beside the answer, by the options of `explore`: what the only given one of two flags asks for, or
-- nothing
abbrev pub SaysBeside : List Row → Beside → Type 0
SaysBeside options beside.Nothing = IsLeftOut (codes "progress") options × IsLeftOut (codes "explain") options
SaysBeside options beside.Progress = IsGiven (codes "progress") options × IsLeftOut (codes "explain") options
SaysBeside options beside.Reasons = IsLeftOut (codes "progress") options × IsGiven (codes "explain") options

-- the form that the options of `run` ask for, and whether reasons are written; only a report has reasons, and a
-- timeline needs a recorded schedule
abbrev pub SaysRunForm : List Row → RunForm → Bool → Type 0
SaysRunForm options runs.Report explain =
    IsLeftOut (codes "record") options × IsLeftOut (codes "timeline") options × IsLeftOut (codes "json") options ×
    SaysFlag (codes "explain") options explain
SaysRunForm options runs.Record false =
    IsGiven (codes "record") options × IsLeftOut (codes "timeline") options × IsLeftOut (codes "json") options ×
    IsLeftOut (codes "explain") options
SaysRunForm options runs.Record true = ⊥
SaysRunForm options runs.Timeline false =
    IsGiven (codes "record") options × IsGiven (codes "timeline") options × IsLeftOut (codes "json") options ×
    IsLeftOut (codes "explain") options
SaysRunForm options runs.Timeline true = ⊥
SaysRunForm options runs.Json false =
    IsLeftOut (codes "record") options × IsLeftOut (codes "timeline") options × IsGiven (codes "json") options ×
    IsLeftOut (codes "explain") options
SaysRunForm options runs.Json true = ⊥

-- which marks reports have, by the text of an option: all if the option isn't given
abbrev pub SaysMarks : Option Text → Marks → Type 0
SaysMarks None kept.All = Unit {0}
SaysMarks None kept.Says = ⊥
SaysMarks None kept.Nothing = ⊥
SaysMarks (Some text) kept.All = text ≡ codes "all"
SaysMarks (Some text) kept.Says = text ≡ codes "say"
SaysMarks (Some text) kept.Nothing = text ≡ codes "none"

-- whether fiber 0 is the only one, by the text of an option; no other fiber can be named
abbrev pub SaysOnly : Option Text → Bool → Type 0
SaysOnly None true = ⊥
SaysOnly None false = Unit {0}
SaysOnly (Some text) true = text ≡ codes "0"
SaysOnly (Some text) false = ⊥

-- the form that the options of `test` ask for: that of the only one of three flags that is given, or a report
abbrev pub SaysTestForm : List Row → TestForm → Type 0
SaysTestForm options tests.Report =
    IsLeftOut (codes "list") options × IsLeftOut (codes "json") options × IsLeftOut (codes "tap") options
SaysTestForm options tests.List =
    IsGiven (codes "list") options × IsLeftOut (codes "json") options × IsLeftOut (codes "tap") options
SaysTestForm options tests.Json =
    IsLeftOut (codes "list") options × IsGiven (codes "json") options × IsLeftOut (codes "tap") options
SaysTestForm options tests.Tap =
    IsLeftOut (codes "list") options × IsLeftOut (codes "json") options × IsGiven (codes "tap") options

-- when verdicts have colours, by the text of an option: `Auto` if the option isn't given
abbrev pub SaysColoring : Option Text → Coloring → Type 0
SaysColoring None Auto = Unit {0}
SaysColoring None Always = ⊥
SaysColoring None Never = ⊥
SaysColoring (Some text) Auto = text ≡ codes "auto"
SaysColoring (Some text) Always = text ≡ codes "always"
SaysColoring (Some text) Never = text ≡ codes "never"
