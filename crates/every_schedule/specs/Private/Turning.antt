-- The moves from one state of a fiber to another, by the numbers of states.
use Rattle.std.specs.Prelude.{◌≡◌, ℕ, ◌<◌, ◌^◌, List, [], ◌∷◌, Option, Some, None}
use Rattle.std.specs.List.{slice_get}
use Rattle.effect_term.specs.declared.reply.Reply.{Reply}
use Rattle.effect_term.specs.Values.{IsValue}
use Rattle.fiber_frames.specs.Answers.{Answers}
use Rattle.fiber_frames.specs.Fiber.{Fiber, ask_of, move}
use Rattle.fiber_frames.specs.Moves.{moved}
use Rattle.scheduled_core.specs.Private.Moving.{children}
use Rattle.effect_term.specs.declared.reply.CancelReply.TheVariants as cancel
use Rattle.effect_term.specs.declared.reply.JoinReply.TheVariants as join
use Rattle.effect_term.specs.declared.reply.Outcome.TheVariants as outcome
use Rattle.effect_term.specs.declared.reply.Reply.TheVariants as reply
use Rattle.every_schedule.specs.declared.turns.Said.{Said}
use Rattle.every_schedule.specs.declared.turns.Said.TheVariants as said
use Rattle.every_schedule.specs.declared.turns.Turn.{Turn}
use Rattle.every_schedule.specs.declared.turns.Turned.{Turned}

-- the reply is of the kind that the fiber's move wants, and there is room for a mask number
pub record MayTurn (g : Fiber) (r : Reply) : Type 0 where
  pub answers : Answers g.number (ask_of g) r
  pub room : g.next < 2 ^ 63

-- the list is the one fiber with the state of this number, or empty without a number
abbrev pub IsChild : List Fiber → Option ℕ → List Fiber → Type 0
IsChild fs None gs = gs ≡ []
IsChild fs (Some n) gs = (g : Fiber) × (gs ≡ g ∷ []) × (slice_get fs n ≡ Some g)

-- the reply of a `Said`
abbrev pub reply_of : Said → Reply
reply_of said.Done = reply.Done
reply_of (said.Seen b) = reply.Seen b
reply_of said.Asked = reply.Cancel cancel.Asked
reply_of said.Already = reply.Cancel cancel.Already
reply_of said.Over = reply.Cancel cancel.Ended
reply_of said.Waits = reply.Join join.Waits
reply_of (said.Succeeded v) = reply.Join (join.Ended (outcome.Succeeded v))
reply_of (said.Errored v) = reply.Join (join.Ended (outcome.Errored v))
reply_of said.Canceled = reply.Join (join.Ended outcome.Canceled)
reply_of (said.Number n) = reply.Number n
reply_of (said.Value v) = reply.Value v
reply_of (said.Completed b) = reply.Completed b
reply_of said.Empty = reply.Read None
reply_of (said.Full v) = reply.Read (Some v)

-- the number in place of a value, if there is one, is that of a value
abbrev pub IsSaid : Said → Type 0
IsSaid (said.Succeeded v) = IsValue v
IsSaid (said.Errored v) = IsValue v
IsSaid (said.Value v) = IsValue v
IsSaid (said.Full v) = IsValue v
IsSaid _ = Unit {0}

-- the move of the state of this number, under this reply, leads to the states of these numbers
pub record IsMoved (fs : List Fiber) (state : ℕ) (r : Reply) (t : Turn) : Type 0 where
  pub fiber : Fiber
  pub at : slice_get fs state ≡ Some fiber
  pub to : slice_get fs t.state ≡ Some (move fiber r)
  pub child : IsChild fs t.child (children (moved fiber r))

abbrev pub IsTurned : List Fiber → Turned → Type 0
IsTurned fs t = IsMoved fs t.state (reply_of t.said) t.turn

abbrev pub AreTurned : List Fiber → List Turned → Type 0
AreTurned fs ts = (i : ℕ) (t : Turned) → slice_get ts i ≡ Some t → IsTurned fs t

-- the move is in the list
abbrev pub IsAmong : List Turned → Turned → Type 0
IsAmong ts t = (i : ℕ) × (slice_get ts i ≡ Some t)
