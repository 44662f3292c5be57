-- Options of `test` that ask for two forms at once ask for none.
use Rattle.std.proofs.Common.{◌≡◌, ◌∙◌, List, [], Some, ap, codes, map, sym}
use Rattle.std.specs.Borrow.{Bor}
use Rattle.clap.specs.Words.{Row, Text}
use Rattle.command_words.specs.declared.testing.Coloring.{Coloring}
use Rattle.command_words.specs.declared.testing.Coloring.TheVariants.{Auto, Always, Never}
use Rattle.command_words.specs.declared.testing.TestForm.{TestForm}
use Rattle.command_words.specs.declared.testing.TestForm.TheVariants as forms
use Rattle.command_words.specs.Flags.{IsGiven, SaysColoring, SaysTestForm}

pub list_with_json : (options : List Row) → IsGiven (codes "list") options → IsGiven (codes "json") options → (form : TestForm) →
    SaysTestForm options form → ⊥
list_with_json options list json forms.Report says = says.0 list
list_with_json options list json forms.List says = says.1 json
list_with_json options list json forms.Json says = says.0 list
list_with_json options list json forms.Tap says = says.0 list

pub list_with_tap : (options : List Row) → IsGiven (codes "list") options → IsGiven (codes "tap") options → (form : TestForm) →
    SaysTestForm options form → ⊥
list_with_tap options list tap forms.Report says = says.0 list
list_with_tap options list tap forms.List says = says.2 tap
list_with_tap options list tap forms.Json says = says.0 list
list_with_tap options list tap forms.Tap says = says.0 list

pub json_with_tap : (options : List Row) → IsGiven (codes "json") options → IsGiven (codes "tap") options → (form : TestForm) →
    SaysTestForm options form → ⊥
json_with_tap options json tap forms.Report says = says.1 json
json_with_tap options json tap forms.List says = says.1 json
json_with_tap options json tap forms.Json says = says.2 tap
json_with_tap options json tap forms.Tap says = says.1 json

-- a text that is none of the three words asks for no colouring
pub no_color : (text : Text) → (text ≡ codes "auto" → ⊥) → (text ≡ codes "always" → ⊥) → (text ≡ codes "never" → ⊥) → (color : Coloring) →
    SaysColoring (Some text) color → ⊥
no_color text auto always never Auto says = auto says
no_color text auto always never Always says = always says
no_color text auto always never Never says = never says

-- if there are no texts, none are copied
pub nothing_copied : (copy : List (Bor Text)) (texts : List Text) → copy ≡ [] → texts ≡ [] → map (λ s. s.now) copy ≡ texts
nothing_copied copy texts none nothing = ap (map (λ s. s.now)) none ∙ sym nothing
