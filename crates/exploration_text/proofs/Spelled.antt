-- Texts of numbers, read back.
use Rattle.std.proofs.Common.{◌≡◌, ℤ, pos, negsuc, List, ℕ, Option, Some, None, IfNone, Result, Ok, FitsSigned, to_z, of_z, sym, subst, arith}
use Rattle.std.{proofs.lemmas.{Fmt.parse-signed_decimal, Int.{fits_signed_from_abs, to_z-of_z}}, specs.{Fmt.signed_decimal, Int.w64, Str.Parse.ParsesSigned}}
use Rattle.effect_term.specs.Values.{IsValue}

fits : (v : ℤ) → IsValue v → FitsSigned w64 v
fits (pos n) h = fits_signed_from_abs w64 (pos n) (omega arith)
fits (negsuc n) h = fits_signed_from_abs w64 (negsuc n) (omega arith)

-- reading the text of a value gives the value
pub parsed : {E : Type 0} (v : ℤ) (text : List ℕ) (r : Result ℤ E) → IsValue v → text ≡ signed_decimal v →
    ParsesSigned w64 10 text r → r ≡ Ok v
parsed (pos n) text r h is p = parse-signed_decimal w64 (pos n) text r (fits (pos n) h) (omega arith) is p
parsed (negsuc n) text r h is p = parse-signed_decimal w64 (negsuc n) text r (fits (negsuc n) h) (omega arith) is p

-- if the number gives no value, the text spells no value
pub unspelled : {E X : Type 0} (number : ℤ) (text : List ℕ) (r : Result ℤ E) (v : Option X) → r ≡ Ok number →
    ParsesSigned w64 10 text r →
    IfNone v (IsValue (to_z w64 (of_z w64 number)) → text ≡ signed_decimal (to_z w64 (of_z w64 number)) → ⊥) →
    IfNone v ((z : ℤ) → IsValue z → text ≡ signed_decimal z → ⊥)
unspelled number text r None is p h = λ z good spells.
    let read = parsed z text r good spells p in
    let one : z ≡ number = cc in
    let same : z ≡ to_z w64 (of_z w64 number) = subst (λ y. z ≡ to_z w64 (of_z w64 y)) one (sym (to_z-of_z w64 z (fits z good))) in
    h (subst IsValue same good) (subst (λ y. text ≡ signed_decimal y) same spells)
unspelled number text r (Some x) is p h = tt
