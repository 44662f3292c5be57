use Rattle.std.proofs.Common.{◌≡◌, ℕ, zero, suc, nat_lt, refl, arith}
use Rattle.std.proofs.lemmas.Bool.{lt-ltb}
use Rattle.every_outcome.specs.Places.{with_says}
use Rattle.every_outcome.proofs.says.keeps_says.Goals as goal

by_number : (n : ℕ) → nat_lt 0 n ≡ with_says n
by_number zero = refl
by_number (suc n) = lt-ltb 0 (suc n) (omega arith)

pub returns : goal.returns
returns c = by_number c.args.search
