-- The ends of a range, as `clap` reads them.
use Rattle.std.proofs.Common.{◌≡◌, ◌∙◌, ◌<◌, ℕ, pos, Some, ap, ap₂, arith}
use Rattle.std.specs.Ordering.{nat_cmp, ord_max, ord_min}
use Rattle.std.specs.Int.{saturate_unsigned, w64}
use Rattle.std.proofs.lemmas.Grind.{common_steps}
use Rattle.clap.specs.declared.builder.value_parser.ValueParser.TheVariants.{Unsigned}
use Rattle.clap.specs.Values.{unsigned_up_to}

saturated : (n : ℕ) → n < 9223372036854775808 → saturate_unsigned w64 (pos n) ≡ n
saturated n small = grind (arith, common_steps)

least_kept : (n : ℕ) → ord_max nat_cmp 0 n ≡ n
least_kept n = grind (arith, common_steps)

most_kept : (n : ℕ) → n < 9223372036854775808 → ord_min nat_cmp 18446744073709551615 n ≡ n
most_kept n small = grind (arith, common_steps)

-- the parser of whole numbers, narrowed to a range
pub narrowed : (least most : ℕ) → least < 9223372036854775808 → most < 9223372036854775808 →
    unsigned_up_to (ord_max nat_cmp 0 (saturate_unsigned w64 (pos least))) 18446744073709551615 (Some (pos most)) ≡ Unsigned least most
narrowed least most small small' = ap₂ Unsigned (ap (λ n. ord_max nat_cmp 0 n) (saturated least small) ∙ least_kept least) (most_kept most small')
