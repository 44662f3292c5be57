-- The moves of a small graph: each place has two fibers, whose entries lead to a place or, from 100 on, to a fault.
use Rattle.std.specs.Prelude.{ℕ, ◌+◌, ◌*◌, List, Result, Ok, Err, cond, nat_lt, slice_index_or}

abbrev pub led_to : ℕ → Result ℕ ℕ
led_to code = cond (nat_lt code 100) (Ok code) (Err code)

abbrev pub moved : List ℕ → ℕ → ℕ → Result ℕ ℕ
moved moves place fiber = cond (nat_lt fiber 2) (led_to (slice_index_or moves (2 * place + fiber) 0)) (Ok place)
