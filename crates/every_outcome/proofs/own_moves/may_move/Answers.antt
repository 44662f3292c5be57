use Rattle.std.proofs.Common.{ℕ, Bool, ◌&&◌, ◌||◌, ap₂, ◌∙◌}
use Rattle.std.specs.Prelude.{Option, is_none}
use Rattle.every_outcome.proofs.own_moves.may_move.Goals as goal

pub returns : goal.returns
returns c = λ says.
    c.is_allowed.ensures
    ∙ ap₂ (λ (own : Bool) (stored : Option ℕ). own && (c.args.stores || is_none stored)) (c.has_own_move-own.ensures says) (c.stored_by-stored.ensures says)
