-- Sums and maxima that stop at a greatest number.
use Rattle.std.proofs.Common.{◌≡◌, ℕ, ◌+◌, min, max, arith}

pub max_capped : (a b m : ℕ) → max (min a m) (min b m) ≡ min (max a b) m
max_capped a b m = omega arith

pub one_above_capped : (a m : ℕ) → min (1 + min a m) m ≡ min (1 + a) m
one_above_capped a m = omega arith
