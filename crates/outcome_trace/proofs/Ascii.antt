-- Numbers with their signs are text of single bytes, and short.
use Rattle.std.{proofs.{Common.{ℤ, pos, negsuc, arith}, lemmas.Fmt.IsAscii-signed}, specs.{Fmt.signed_decimal, Str.IsAscii}}
use Rattle.effect_term.specs.Values.{IsValue}

pub IsAscii-of_signed : (z : ℤ) → IsValue z → IsAscii (signed_decimal z)
IsAscii-of_signed (pos n) h = IsAscii-signed (pos n) (omega arith)
IsAscii-of_signed (negsuc n) h = IsAscii-signed (negsuc n) (omega arith)
