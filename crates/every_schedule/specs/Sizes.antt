-- Estimates of the bytes that states take, by which a search counts what it keeps.
use Rattle.std.specs.Prelude.{ℕ, ◌+◌, ◌*◌, length, min}
use Rattle.cell_registry.specs.Plain.{PlainView}
use Rattle.fiber_frames.specs.Fiber.{Fiber}
use Rattle.every_schedule.specs.Private.Seen.{Marked}

-- at most the largest number of a word
abbrev pub capped : ℕ → ℕ
capped n = min n 18446744073709551615

-- a fiber: only its marks can grow without end
abbrev pub fiber_size : Fiber → ℕ
fiber_size f = capped (16 * length f.marks + 480)

-- a registry: it has all cells that its limits allow from the start
abbrev pub registry_size : PlainView → ℕ
registry_size r = 160 + 32 * r.limits.fibers + 8 * r.limits.refs + 16 * r.limits.deferreds

-- a row: the number of a world, and the numbers of refs
abbrev pub seen_row_size : Marked → ℕ
seen_row_size m = capped (2 * length m.seen + 64)
