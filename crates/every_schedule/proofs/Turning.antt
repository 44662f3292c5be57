-- Moves by the numbers of states, as states are added.
use Rattle.std.{proofs.Common.{◌≡◌, ℕ, List, [], ◌∷◌, ◌++◌, inl, inr, subst}, specs.Prelude.{Option, Some, None}}
use Rattle.effect_term.specs.declared.reply.Reply.{Reply}
use Rattle.fiber_frames.specs.Fiber.{Fiber}
use Rattle.world_search.{specs.Lists.IsMore, proofs.Lists.{get_end, more_get}}
use Rattle.every_schedule.specs.{declared.turns.{Said.Said, Turn.Turn, Turned.Turned}, Private.Turning.{AreTurned, IsAmong, IsChild, IsMoved, IsTurned}}
use Rattle.every_schedule.specs.Private.Turning.{reply_of}

pub child_more : (fs fs' : List Fiber) (o : Option ℕ) (gs : List Fiber) → IsMore fs fs' → IsChild fs o gs → IsChild fs' o gs
child_more fs fs' None gs more h = h
child_more fs fs' (Some n) gs more h = (h.0, h.1, more_get fs fs' n h.0 more h.2)

pub moved_more : (fs fs' : List Fiber) (n : ℕ) (r : Reply) (t : Turn) → IsMore fs fs' → IsMoved fs n r t → IsMoved fs' n r t
moved_more fs fs' n r t more h = record {
  fiber = h.fiber;
  at = more_get fs fs' n _ more h.at;
  to = more_get fs fs' t.state _ more h.to;
  child = child_more fs fs' t.child _ more h.child;
}

pub turned_more : (fs fs' : List Fiber) (ts : List Turned) → IsMore fs fs' → AreTurned fs ts → AreTurned fs' ts
turned_more fs fs' ts more h = λ i t at. moved_more fs fs' t.state (reply_of t.said) t.turn more (h i t at)

pub turned_added : (fs : List Fiber) (ts : List Turned) (t : Turned) → IsTurned fs t → AreTurned fs ts → AreTurned fs (ts ++ t ∷ [])
turned_added fs ts t is h = λ i x at. elim (get_end ts t x i at) [
  | inl early ↦ h i x early
  | inr last ↦ subst (IsTurned fs) last.1 is
]

-- a move that was made before
pub found_moved : (fs : List Fiber) (ts : List Turned) (n : ℕ) (d : Said) (r : Reply) (t : Turn) → reply_of d ≡ r → AreTurned fs ts →
    IsAmong ts record { state = n; said = d; turn = t } → IsMoved fs n r t
found_moved fs ts n d r t is h at = subst (λ (x : Reply). IsMoved fs n x t) is (h at.0 _ at.1)

pub turned_none : (fs : List Fiber) → AreTurned fs []
turned_none fs = λ i t at. absurd (cc)
