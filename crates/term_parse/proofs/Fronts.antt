-- What a reading has in front, and the opening of a bracket.
use Rattle.std.proofs.{Common.{◌≡◌, ◌<◌, ℕ, List, [], ◌++◌, Result, Ok, Err, true, nat_lt, refl, ap, sym, append_assoc}, lemmas.Bool.lt-ltb}
use Rattle.term_parse.specs.{declared.error.ParseError.ParseError, Atoms.Atom, Reading.{Want, opening, with_front}}

pub with_none : (r : Result (List Atom) ParseError) → with_front [] r ≡ r
with_none (Ok x) = refl
with_none (Err e) = refl

pub with_both : (a b : List Atom) (r : Result (List Atom) ParseError) → with_front a (with_front b r) ≡ with_front (a ++ b) r
with_both a b (Ok x) = ap (λ y. Ok y) (sym (append_assoc a b x))
with_both a b (Err e) = refl

pub with_front-err : (a : List Atom) (r : Result (List Atom) ParseError) (e : ParseError) → with_front a r ≡ Err e → r ≡ Err e
with_front-err a (Ok x) e h = cc
with_front-err a (Err x) e h = h

-- the rest of what was read, behind its front
pub with_front-ok : (a : List Atom) (r : Result (List Atom) ParseError) (xs : List Atom) → with_front a r ≡ Ok xs → (ys : List Atom) × (r ≡ Ok ys) ×
    (xs ≡ a ++ ys)
with_front-ok a (Ok y) xs h = (y, refl, cc)
with_front-ok a (Err e) xs h = cc

pub opening_low : (depth at : ℕ) (ws : List Want) → depth < 100 → opening depth at ws ≡ Ok (record { atoms = []; wants = ws })
opening_low depth at ws l = let t : nat_lt depth 100 ≡ true = lt-ltb depth 100 l in rw t refl
