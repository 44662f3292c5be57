-- The random numbers that schedules are drawn with.
use Rattle.std.specs.Prelude.{ℕ, List}
use Rattle.rand_core.specs.Stream.{Stream}
use Rattle.rand_core.specs.Steps.{steps_u64_high, stream_of}
use Rattle.rand_xoshiro.specs.SplitMix64.{splitmix_seed}
use Rattle.rand_xoshiro.specs.Xoshiro256.{of_seed, plus_plus}

-- all numbers of xoshiro256++ from this state on
abbrev pub numbers_behind : List ℕ → Stream
numbers_behind state = stream_of (steps_u64_high plus_plus) state

-- all of its numbers from a seed, which SplitMix64 expands to its first state
abbrev pub numbers_of : ℕ → Stream
numbers_of seed = numbers_behind (of_seed (splitmix_seed 32 seed))
