-- A whole model file.
use Rattle.std.specs.Prelude.{◌≡◌, ◌≢◌, ℕ, List, Option, Some, None, Err, codes}
use Rattle.model_forms.specs.Rows.{Row, Spells, flat}
use Rattle.model_forms.specs.Faults.{IsFaultOf}
use Rattle.model_forms.specs.declared.fault.FormFault.{FormFault}
use Rattle.model_forms.specs.declared.fault.FormFault.TheVariants as forms
use Rattle.model_text.specs.Items.{items_of}
use Rattle.model_text.specs.Standing.{AreItems}
use Rattle.model_text.specs.declared.fault.ItemFault.{ItemFault}
use Rattle.model_text.specs.declared.fault.ItemFault.TheVariants as items
use Rattle.model_text.specs.declared.file.FileFault.{FileFault}
use Rattle.model_text.specs.declared.file.FileFault.TheVariants.{Form, Item}
use Rattle.model_text.specs.declared.file.ModelFile.{ModelFile}

-- some row spells the text, the file has the forms of this row, and its items are those of the row
pub record IsFile (text : List ℕ) (file : ModelFile) : Type 0 where
  pub row : Row
  pub spelled : Spells text row
  pub forms_are : file.forms.items ≡ flat row
  pub items_are : AreItems file.forms.items file.items.items (items_of text row)

-- some row spells the text, and `fault` is the first fault of the row's items
pub record IsItemFault (text : List ℕ) (fault : ItemFault) : Type 0 where
  pub row : Row
  pub spelled : Spells text row
  pub fails : items_of text row ≡ Err fault

-- the first fault of a text: of its brackets and strings, or else of its items
abbrev pub IsFileFault : List ℕ → FileFault → Type 0
IsFileFault text (Form e) = IsFaultOf text e
IsFileFault text (Item e) = e ≢ items.NoMemory → IsItemFault text e

abbrev pub form_place : FormFault → Option ℕ
form_place forms.NoMemory = None
form_place (forms.Unclosed count place) = Some place
form_place (forms.Unopened place) = Some place
form_place (forms.UnclosedText place) = Some place

abbrev pub item_place : ItemFault → Option ℕ
item_place items.NoMemory = None
item_place (items.NotAnItem place) = Some place
item_place (items.NotADefinition place) = Some place
item_place (items.NotAName place) = Some place
item_place (items.NotANumber place) = Some place
item_place (items.NotAPart place) = Some place
item_place (items.NotABound place) = Some place
item_place (items.NotAModel place) = Some place
item_place (items.NotAClaim place) = Some place
item_place (items.NoRun place) = Some place
item_place (items.EmptyList place) = Some place
item_place (items.NotAWord place) = Some place
item_place (items.StrayText place) = Some place
item_place (items.EmptyRun place) = Some place
item_place (items.BehindRun place) = Some place

abbrev pub place_of : FileFault → Option ℕ
place_of (Form e) = form_place e
place_of (Item e) = item_place e

abbrev pub form_code : FormFault → List ℕ
form_code forms.NoMemory = codes "E24"
form_code (forms.Unclosed count place) = codes "E01"
form_code (forms.Unopened place) = codes "E02"
form_code (forms.UnclosedText place) = codes "E03"

abbrev pub item_code : ItemFault → List ℕ
item_code items.NoMemory = codes "E24"
item_code (items.NotAnItem place) = codes "E18"
item_code (items.NotADefinition place) = codes "E16"
item_code (items.NotAName place) = codes "E13"
item_code (items.NotANumber place) = codes "E14"
item_code (items.NotAPart place) = codes "E16"
item_code (items.NotABound place) = codes "E18"
item_code (items.NotAModel place) = codes "E18"
item_code (items.NotAClaim place) = codes "E18"
item_code (items.NoRun place) = codes "E18"
item_code (items.EmptyList place) = codes "E05"
item_code (items.NotAWord place) = codes "E05"
item_code (items.StrayText place) = codes "E13"
item_code (items.EmptyRun place) = codes "E06"
item_code (items.BehindRun place) = codes "E18"

-- a short name of the kind of fault
abbrev pub code_of : FileFault → List ℕ
code_of (Form e) = form_code e
code_of (Item e) = item_code e
