-- The further terms of a `seq`, written one after another.
use Rattle.std.proofs.Common.{◌≡◌, ◌+◌, ◌<◌, ◌≤◌, ℕ, zero, suc, List, [], ◌∷◌, ◌++◌, length, get_or, drop, ap, sym, subst, ◌∙◌, arith, append_assoc}
use Rattle.std.proofs.lemmas.List.{at_drop_more}
use Rattle.effect_term.specs.declared.term.Term.{Term}
use Rattle.term_parse.specs.{Atoms.{ended, atoms_of}, Numbers.NumbersFit, PrintedParts.{terms_spelled, terms_atoms}, Spelling.{spelling, more_spelling}}
use Rattle.term_parse.proofs.{PrintedNumbers.join_numbers, Weights.{weight, terms_weight}}

-- one of them weighs at most what all weigh
pub weight_at : (ts : List Term) (i : ℕ) (t : Term) → i < length ts → t ≡ get_or ts i t → weight t ≤ terms_weight ts
weight_at [] i t l e = absurd (omega arith)
weight_at (x ∷ xs) zero t l e = omega (arith, ap weight e)
weight_at (x ∷ xs) (suc i) t l e = omega (arith, weight_at xs i t (omega arith) e)

-- a space, the term, and what stands behind it
pub next_text : (ts : List Term) (i : ℕ) (t : Term) (around : ℕ) (out new all : List ℕ) → i < length ts → t ≡ get_or ts i t →
    new ≡ (out ++ 32 ∷ []) ++ spelling t around → out ++ more_spelling around (terms_spelled (drop i ts)) ≡ all → new ++
    more_spelling around (terms_spelled (drop (i + 1) ts)) ≡ all
next_text ts i t around out new all within is e so_far =
    let behind : List ℕ = more_spelling around (terms_spelled (drop (i + 1) ts)) in
    let here : more_spelling around (terms_spelled (drop i ts)) ≡ 32 ∷ (spelling (get_or ts i t) around ++ behind) =
    at_drop_more (λ xs. more_spelling around (terms_spelled xs)) ts i t within in
    ap (λ x. x ++ behind) e ∙ append_assoc (out ++ 32 ∷ []) (spelling t around) behind
    ∙ append_assoc out (32 ∷ []) (spelling t around ++ behind)
    ∙ ap (λ x. out ++ 32 ∷ (spelling x around ++ behind)) is ∙ ap (λ x. out ++ x) (sym here) ∙ so_far

pub next_numbers : (ts : List Term) (i : ℕ) (t : Term) → i < length ts → t ≡ get_or ts i t → NumbersFit (atoms_of t) →
    NumbersFit (terms_atoms (drop (i + 1) ts) (ended ∷ [])) → NumbersFit (terms_atoms (drop i ts) (ended ∷ []))
next_numbers ts i t within is here behind =
    let all : terms_atoms (drop i ts) (ended ∷ []) ≡ atoms_of (get_or ts i t) ++ terms_atoms (drop (i + 1) ts) (ended ∷ []) =
    at_drop_more (λ xs. terms_atoms xs (ended ∷ [])) ts i t within in
    subst NumbersFit (sym all)
    (join_numbers (atoms_of (get_or ts i t)) (terms_atoms (drop (i + 1) ts) (ended ∷ [])) (subst (λ (x : Term). NumbersFit (atoms_of x)) is here) behind)
