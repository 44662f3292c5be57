-- What a word that releases does after each outcome of its body.
use Rattle.std.specs.Prelude.{ℕ, ◌+◌}
use Rattle.derived_ops.specs.declared.closing.Closing.{Closing}
use Rattle.derived_ops.specs.declared.closing.Closing.TheVariants.{Finalizer, Release}
use Rattle.derived_ops.specs.Expansion.{attempted, concluded, in_order, released_on_cancel, released_on_error}
use Rattle.derived_ops.specs.Expansion.{released_on_value}
use Rattle.derived_ops.specs.Tree.{Tree, Slot, Named, Pure, Raise, Handled, Poll, On_cancel}

-- the last slot that it binds
abbrev pub last_of_closing : Closing → ℕ
last_of_closing (Finalizer s) = s + 2
last_of_closing (Release s) = s + 4

-- the slot of the mask around the body, and that of the outcome
abbrev pub mask_of_closing : Closing → ℕ
mask_of_closing (Finalizer s) = s
mask_of_closing (Release s) = s + 2

abbrev pub outcome_of_closing : Closing → ℕ
outcome_of_closing (Finalizer s) = s + 1
outcome_of_closing (Release s) = s + 3

-- the body, with the masks undone
abbrev pub opened_by : Closing → Tree → Tree
opened_by (Finalizer s) e = Poll (Named s) e
opened_by (Release s) e = Poll (Named (s + 2)) (Poll (Named s) e)

abbrev pub closed_on_cancel : Closing → Tree → Tree
closed_on_cancel (Finalizer s) e = e
closed_on_cancel (Release s) e = released_on_cancel (Named s) e (s + 3)

abbrev pub closed_on_error : Closing → Tree → Tree
closed_on_error (Finalizer s) e = in_order (attempted e (s + 2)) (Raise (Slot (s + 1)))
closed_on_error (Release s) e = released_on_error (Named s) e (s + 3) (s + 4)

abbrev pub closed_on_value : Closing → Tree → Tree
closed_on_value (Finalizer s) e = in_order e (Pure (Slot (s + 1)))
closed_on_value (Release s) e = released_on_value (Named s) e (s + 3) (s + 4)

-- the body with its case of cancellation; with its case of an error, too; and with all cases
abbrev pub guarded_by : Closing → (e on_cancel : Tree) → Tree
guarded_by c e on_cancel = On_cancel (opened_by c e) (closed_on_cancel c on_cancel)

abbrev pub handled_by : Closing → (e on_cancel on_error : Tree) → Tree
handled_by c e on_cancel on_error =
    Handled (guarded_by c e on_cancel) (outcome_of_closing c) (closed_on_error c on_error)

abbrev pub concluded_by : Closing → (e on_cancel on_error on_value : Tree) → Tree
concluded_by c e on_cancel on_error on_value =
    concluded (mask_of_closing c) (outcome_of_closing c) (opened_by c e) (closed_on_cancel c on_cancel)
    (closed_on_error c on_error) (closed_on_value c on_value)
