-- The unit at the end of a text.
use Rattle.std.proofs.Common.{◌≡◌, ◌≢◌, ◌∙◌, ◌++◌, ◌∷◌, ◌-◌, ◌<◌, ◌≤◌, ℕ, [], Some, None, length, take, ap, refl, arith, length-append}
use Rattle.std.proofs.Math.Seq.{take-append_seam}
use Rattle.std.proofs.lemmas.Grind.{common_steps}
use Rattle.std.specs.List.{last_or}
use Rattle.std.specs.Prelude.{◌*◌, Option}
use Rattle.std.proofs.lemmas.Nat.{mul-le}
use Rattle.clap.specs.Words.{Text}
use Rattle.command_words.specs.Memory.{letter_unit, number_in, unit_of}

last_end : (o : Option ℕ) (front : Text) (c : ℕ) → last_or o (front ++ c ∷ []) ≡ Some c
last_end o [] c = refl
last_end o (x ∷ front) c = last_end (Some x) front c

front_end : (front : Text) (c : ℕ) → take (length (front ++ c ∷ []) - 1) (front ++ c ∷ []) ≡ front
front_end front c =
    let long = length-append front (c ∷ []) in
    let less : length (front ++ c ∷ []) - 1 ≡ length front = omega arith in
    ap (λ n. take n (front ++ c ∷ [])) less ∙ take-append_seam front (c ∷ [])

-- the last letter of a text is its unit
pub ends_unit : (text front : Text) (c : ℕ) → text ≡ front ++ c ∷ [] → unit_of text ≡ letter_unit (Some c)
ends_unit text front c is = ap letter_unit (ap (last_or None) is ∙ last_end None front c)

front_of : (n : ℕ) (text front : Text) (c : ℕ) → text ≡ front ++ c ∷ [] → unit_of text ≡ n → n ≢ 1 → number_in text ≡ front
front_of n text front c is unit more = grind (arith, common_steps, front_end front c)

pub ends_number : (text front : Text) (c : ℕ) → text ≡ front ++ c ∷ [] → letter_unit (Some c) ≢ 1 → number_in text ≡ front
ends_number text front c is more = front_of (letter_unit (Some c)) text front c is (ends_unit text front c is) more

ends : (x : ℕ) (xs : Text) → (front : Text) × (c : ℕ) × (x ∷ xs ≡ front ++ c ∷ [])
ends x [] = ([], x, refl)
ends x (y ∷ ys) = let rest = ends y ys in (x ∷ rest.0, rest.1, ap (λ t. x ∷ t) rest.2)

other : (c : ℕ) → c ≢ 107 → c ≢ 77 → c ≢ 71 → letter_unit (Some c) ≡ 1
other c k m g = grind (arith, common_steps)

-- a text that ends in none of the three letters has the unit 1
pub no_unit : (text : Text) → ((front : Text) → text ≢ front ++ 107 ∷ []) → ((front : Text) → text ≢ front ++ 77 ∷ []) →
    ((front : Text) → text ≢ front ++ 71 ∷ []) → unit_of text ≡ 1
no_unit [] k m g = refl
no_unit (x ∷ xs) k m g =
    let end = ends x xs in
    ends_unit (x ∷ xs) end.0 end.1 end.2 ∙ other end.1
    (λ is. k end.0 (end.2 ∙ ap (λ d. end.0 ++ d ∷ []) is))
    (λ is. m end.0 (end.2 ∙ ap (λ d. end.0 ++ d ∷ []) is))
    (λ is. g end.0 (end.2 ∙ ap (λ d. end.0 ++ d ∷ []) is))

pub no_unit_number : (text : Text) → unit_of text ≡ 1 → number_in text ≡ text
no_unit_number text is = grind (arith, common_steps)

pub small_product : (n u : ℕ) → n ≤ 10000000000 → u ≤ 1073741824 → n * u < 18446744073709551616
small_product n u a b = let p = mul-le n u 10000000000 1073741824 a b in omega arith
