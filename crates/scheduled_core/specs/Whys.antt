-- Why a fiber hasn't ended.
use Rattle.std.specs.Prelude.{◌≡◌, ℕ, None}
use Rattle.effect_term.specs.declared.reply.Reply.{Reply}
use Rattle.fiber_frames.specs.Fiber.{Fiber, outcome_of, row_of}
use Rattle.fiber_frames.specs.Rows.{Waited}
use Rattle.cell_registry.specs.declared.call.Call.TheVariants as call
use Rattle.cell_registry.specs.Cells.{Cells}
use Rattle.scheduled_core.specs.declared.wish.Wish.TheVariants.{Shared}
use Rattle.scheduled_core.specs.declared.why.Why.{Why}
use Rattle.scheduled_core.specs.declared.why.Why.TheVariants.{Ended, WaitsForEnd, WaitsForDeferred, WaitsWithoutEnd}
use Rattle.scheduled_core.specs.declared.why.Why.TheVariants.{CouldGoOn}
use Rattle.scheduled_core.specs.Finals.{HasEnded, IsAtRest, word_wish}

-- This is the reason why fiber n, which is in state g, hasn't ended with these cells. A fiber that waits rests at that
-- wait: nothing in the registry ends it, and no request for its cancellation reaches the fiber. A fiber that waits
-- without end would wait under any reply.
abbrev pub IsWhy : Cells → ℕ → Fiber → Why → Type 0
IsWhy s n g Ended = HasEnded g
IsWhy s n g (WaitsForEnd f) = IsAtRest s n g × (word_wish g ≡ Shared (call.Join f))
IsWhy s n g (WaitsForDeferred d) = IsAtRest s n g × (word_wish g ≡ Shared (call.Read d))
IsWhy s n g WaitsWithoutEnd = IsAtRest s n g × ((reply : Reply) → (row_of g reply).kind ≡ Waited)
IsWhy s n g CouldGoOn = outcome_of g ≡ None
