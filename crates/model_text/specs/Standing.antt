-- The meaning of the code's items.
use Rattle.std.specs.Prelude.{◌≡◌, ℕ, List, [], ◌∷◌, Option, Some, None, Result, Ok, Err}
use Rattle.model_forms.specs.Rows.{Row, IsBlock}
use Rattle.model_forms.specs.declared.block.Block.{Block}
use Rattle.model_forms.specs.declared.form.Form.{Form}
use Rattle.model_text.specs.Items.{ItemTree, a_constant, a_definition, some_defaults, a_model, ClaimTree, more, done, bad}
use Rattle.model_text.specs.declared.fault.ItemFault.{ItemFault}
use Rattle.model_text.specs.declared.item.Item.{Item}
use Rattle.model_text.specs.declared.item.Item.TheVariants as items
use Rattle.model_text.specs.declared.model.ClaimStep.{ClaimStep}
use Rattle.model_text.specs.declared.model.ClaimStep.TheVariants as steps

-- the code's item means this item of the grammar: its blocks are the item's rows
abbrev pub Stands : List Form → Item → ItemTree → Type 0
Stands forms (items.Constant c) (a_constant name n) = (c.name ≡ name) × (c.number ≡ n)
Stands forms (items.Definition d) (a_definition name parts body) =
    (d.name ≡ name) × IsBlock forms d.parts parts × IsBlock forms d.body body
Stands forms (items.Defaults b) (some_defaults bounds) = IsBlock forms b bounds
Stands forms (items.Model m) (a_model name about claims body) =
    (m.name ≡ name) × (m.text ≡ about) × IsBlock forms m.claims claims × IsBlock forms m.body body
Stands forms i t = ⊥

-- each of the code's items means the item of the grammar with the same index
abbrev pub AllStand : List Form → List Item → List ItemTree → Type 0
AllStand forms [] [] = Unit {0}
AllStand forms (i ∷ is) (t ∷ ts) = Stands forms i t × AllStand forms is ts
AllStand forms [] (t ∷ ts) = ⊥
AllStand forms (i ∷ is) [] = ⊥

-- the grammar gives items, and the code's items mean them
abbrev pub AreItems : List Form → List Item → Result (List ItemTree) ItemFault → Type 0
AreItems forms is (Ok ts) = AllStand forms is ts
AreItems forms is (Err e) = ⊥

-- the code's result is that of the grammar
abbrev pub Reads : List Form → Result Item ItemFault → Result ItemTree ItemFault → Type 0
Reads forms (Ok i) (Ok t) = Stands forms i t
Reads forms (Err e) (Err f) = e ≡ f
Reads forms (Ok i) (Err f) = ⊥
Reads forms (Err e) (Ok t) = ⊥

abbrev pub ReadsBlock : List Form → Result Block ItemFault → Result Row ItemFault → Type 0
ReadsBlock forms (Ok b) (Ok row) = IsBlock forms b row
ReadsBlock forms (Err e) (Err f) = e ≡ f
ReadsBlock forms (Ok b) (Err f) = ⊥
ReadsBlock forms (Err e) (Ok row) = ⊥

abbrev pub ReadsClaim : List Form → ClaimStep → ClaimTree → Type 0
ReadsClaim forms steps.More more = Unit {0}
ReadsClaim forms (steps.Done b) (done row) = IsBlock forms b row
ReadsClaim forms (steps.Bad e) (bad f) = e ≡ f
ReadsClaim forms s t = ⊥
