-- Where an entry leads, by its code.
use Rattle.std.proofs.Common.{◌≡◌, ℕ, ◌+◌, ◌*◌, ◌<◌, ◌≤◌, List, Ok, Err, slice_index_or, arith}
use Rattle.std.proofs.lemmas.Bool.Decides.{nat_tests}
use Rattle.exploration_tests.specs.Moves.{moved}

pub moved_place : (moves : List ℕ) (place fiber code : ℕ) → fiber < 2 → code ≡ slice_index_or moves (2 * place + fiber) 0 → code < 100 →
    moved moves place fiber ≡ Ok code
moved_place moves place fiber code low is small = grind (arith, nat_tests)

pub moved_fault : (moves : List ℕ) (place fiber code : ℕ) → fiber < 2 → code ≡ slice_index_or moves (2 * place + fiber) 0 → 100 ≤ code →
    moved moves place fiber ≡ Err code
moved_fault moves place fiber code low is large = grind (arith, nat_tests)
