-- Brackets, as a stack of those that are open.
use Rattle.fiber_frames.proofs.Prelude.{ℕ, if◌then◌else◌, List, [], ◌∷◌, Option, Some, None, Acquired, Bracket_mark, Mask, Pair, Released, Releasing, same_mask}
use Rattle.fiber_frames.proofs.Prelude.{Mark}

pub data Opened : Type 0 where
  Held : Mask → Opened
  Freeing : Mask → Opened

-- what is open after a mark, the innermost first
abbrev pub opened : Bracket_mark → Mask → List Opened → Option (List Opened)
opened Acquired q s = Some (Held q ∷ s)
opened Releasing q (Held p ∷ s) = if same_mask q p then Some (Freeing p ∷ s) else None
opened Releasing q (Freeing p ∷ s) = None
opened Releasing q [] = None
opened Released q (Freeing p ∷ s) = if same_mask q p then Some s else None
opened Released q (Held p ∷ s) = None
opened Released q [] = None

abbrev pub and_then : Option (List Opened) → (List Opened → Option (List Opened)) → Option (List Opened)
and_then None f = None
and_then (Some s) f = f s

module _ (self : ℕ) where
  abbrev pub after_mark : Mark → List Opened → Option (List Opened)
  after_mark (Mark.Acquired m) s = opened Acquired (Pair self m) s
  after_mark (Mark.Releasing m) s = opened Releasing (Pair self m) s
  after_mark (Mark.Released m) s = opened Released (Pair self m) s
  after_mark _ s = Some s

  abbrev pub after_marks : List Mark → List Opened → Option (List Opened)
  after_marks [] s = Some s
  after_marks (m ∷ ms) s = and_then (after_mark m s) (after_marks ms)
