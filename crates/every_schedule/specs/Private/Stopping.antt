-- How far a world has come, computed from its fibers and its registry.
use Rattle.std.specs.Prelude.{◌≡◌, ◌⊎◌, ◌&&◌, ◌||◌, not, is_some, ℕ, suc, Bool, true, false, List, [], ◌∷◌}
use Rattle.std.specs.List.{list_all}
use Rattle.derived_ops.specs.Tree.{Mask}
use Rattle.effect_term.specs.declared.reply.Reply.{Reply}
use Rattle.fiber_frames.specs.declared.ask.Ask.{Ask}
use Rattle.fiber_frames.specs.declared.ask.Ask.TheVariants as ask
use Rattle.fiber_frames.specs.declared.ask.Look.{Look}
use Rattle.fiber_frames.specs.declared.ask.Look.TheVariants.{Due, Clear, Seen}
use Rattle.fiber_frames.specs.Answers.{Answers}
use Rattle.fiber_frames.specs.Rows.{Waited}
use Rattle.fiber_frames.specs.Fiber.{Fiber, active_of, is_waited, outcome_of, row_of}
use Rattle.cell_registry.specs.Cells.{Cells, cell_of}
use Rattle.scheduled_core.specs.Core.{World}
use Rattle.scheduled_core.specs.Finals.{HasEnded, IsAtRest, reply_to, word_wish}
use Rattle.every_schedule.specs.declared.claims.ClaimWord.{ClaimWord}
use Rattle.every_schedule.specs.declared.progress.Progress.{Progress}
use Rattle.every_schedule.specs.declared.progress.Progress.TheVariants.{GoesOn, Deadlocked, LeftBehind, AllOver}
use Rattle.every_schedule.specs.Claims.{View, is_met}

abbrev pub is_unseen : Look → Bool
is_unseen Due = true
is_unseen Clear = true
is_unseen Seen = false

-- no request reaches a fiber with these active masks
abbrev pub is_unasked : List Mask → Look → Bool → Bool
is_unasked [] look request = is_unseen look && not request
is_unasked (m ∷ up) look request = true

abbrev pub has_mask : List Mask → Bool
has_mask [] = false
has_mask (m ∷ up) = true

-- the word of the fiber waits, under some reply
abbrev pub IsAtWait : Fiber → Type 0
IsAtWait g = (r : Reply) × ((row_of g r).kind ≡ Waited)

-- the ask is that of a wait
abbrev pub IsWaiting : Ask → Type 0
IsWaiting (ask.Join f) = Unit {0}
IsWaiting (ask.Read d) = Unit {0}
IsWaiting ask.Silent = Unit {0}
IsWaiting _ = ⊥

-- the ask is that of a wait, and any fiber's move can have this reply
abbrev pub IsWaitReply : Ask → Reply → Type 0
IsWaitReply a r = IsWaiting a × ((i : ℕ) → Answers i a r)

-- the fiber is at a wait that nothing in the registry ends
abbrev pub waits : Cells → ℕ → Fiber → Bool
waits s f g = is_waited (row_of g (reply_to s f (word_wish g))).kind

abbrev pub is_at_rest : Cells → ℕ → Fiber → Bool
is_at_rest s f g = waits s f g && is_unasked (active_of g) g.look (cell_of s f).request

abbrev pub ends : Fiber → Bool
ends g = is_some (outcome_of g)

-- the fiber has ended, or rests
abbrev pub IsStopped : Cells → ℕ → Fiber → Type 0
IsStopped s f g = HasEnded g ⊎ IsAtRest s f g

abbrev pub is_stopped : Cells → ℕ → Fiber → Bool
is_stopped s f g = ends g || is_at_rest s f g

-- so does each of these fibers, the first of which is fiber f
abbrev pub are_stopped : Cells → ℕ → List Fiber → Bool
are_stopped s f [] = true
are_stopped s f (g ∷ gs) = is_stopped s f g && are_stopped s (suc f) gs

abbrev pub first_ends : List Fiber → Bool
first_ends [] = false
first_ends (g ∷ gs) = ends g

abbrev pub standing_by : (final first all : Bool) → Progress
standing_by false first all = GoesOn
standing_by true false all = Deadlocked
standing_by true true false = LeftBehind
standing_by true true true = AllOver

abbrev pub standing_of : World → Progress
standing_of w = standing_by (are_stopped w.cells 0 w.fibers) (first_ends w.fibers) (list_all ends w.fibers)

-- whether a view meets a claim
abbrev pub meets_here : View → List ClaimWord → Bool
meets_here v words = is_met (standing_of v.place.world) v words
