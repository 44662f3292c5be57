-- The rows at the head of a timeline that only make refs and deferreds.
use Rattle.std.specs.Prelude.{ℕ, ◌+◌, Bool, true, false, nat_eq, nat_lt, List, [], ◌∷◌, count_by, take, if◌then◌else◌}
use Rattle.effect_term.specs.declared.reply.Reply.TheVariants as reply
use Rattle.cell_registry.specs.declared.call.Call.TheVariants as call
use Rattle.fiber_events.specs.declared.event.Deed.{Deed}
use Rattle.fiber_events.specs.declared.event.Deed.TheVariants as deed
use Rattle.made_rows.specs.declared.made.Made.{Made}
use Rattle.made_rows.specs.declared.product.Product.{Product}
use Rattle.made_rows.specs.declared.product.Product.TheVariants as what

-- ---- what a row makes
-- what it makes to set this ref, behind a row that makes `before`
abbrev pub product_of_set : Product → ℕ → Product
product_of_set (what.Ref made) number = if nat_eq made number then what.Value else what.Nothing
product_of_set _ number = what.Nothing

-- what it makes, behind a row that makes `before`
abbrev pub product_of : Product → Deed → Product
product_of before (deed.Called call.NewRef (reply.Number number)) = what.Ref number
product_of before (deed.Called call.NewDeferred _) = what.Deferred
product_of before (deed.Called (call.Set number _) _) = product_of_set before number
product_of before _ = what.Nothing

-- ---- the first rows
abbrev pub is_nothing : Product → Bool
is_nothing what.Nothing = true
is_nothing _ = false

-- how many rows are before the first that makes nothing, behind a row that makes `before`
abbrev pub leading : Product → List Deed → ℕ
leading before [] = 0
leading before (row ∷ rows) =
    if is_nothing (product_of before row) then 0 else leading (product_of before row) rows + 1

abbrev pub is_ref : Deed → Bool
is_ref (deed.Called call.NewRef _) = true
is_ref _ = false

abbrev pub is_deferred : Deed → Bool
is_deferred (deed.Called call.NewDeferred _) = true
is_deferred _ = false

-- the first rows and what they make; none if they are at most four
abbrev pub made_by : List Deed → Made
made_by rows =
    let n = leading what.Nothing rows in
    if nat_lt 4 n
    then record { rows = n; refs = count_by is_ref (take n rows); deferreds = count_by is_deferred (take n rows) }
    else record { rows = 0; refs = 0; deferreds = 0 }
