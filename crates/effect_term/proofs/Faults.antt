-- The first fault of lists of uses.
use Rattle.std.proofs.{Common.{◌≡◌, ℕ, ◌+◌, ◌<◌, ◌++◌, ◌∙◌, List, [], ◌∷◌, Option, Some, None, length, get_or, drop, ap, refl, sym}, lemmas.List.at_drop_more}
use Rattle.std.specs.Option.{option_or}
use Rattle.effect_term.specs.{declared.{refusal.TermError.TermError, term.{Kind.Kind, Term.Term}}, Names.{Use, fault_of, first_fault, uses_of, uses_of_all}}

option_or-assoc : (a b c : Option TermError) → option_or (option_or a b) c ≡ option_or a (option_or b c)
option_or-assoc None b c = refl
option_or-assoc (Some e) b c = refl

pub first_fault-append : (xs ys : List Use) → first_fault (xs ++ ys) ≡ option_or (first_fault xs) (first_fault ys)
first_fault-append [] ys = refl
first_fault-append (u ∷ us) ys =
    ap (option_or (fault_of u)) (first_fault-append us ys) ∙ sym (option_or-assoc (fault_of u) (first_fault us) (first_fault ys))

-- after uses without a fault come the next ones'
pub first_fault-good : (xs ys : List Use) → first_fault xs ≡ None → first_fault (xs ++ ys) ≡ first_fault ys
first_fault-good xs ys good = first_fault-append xs ys ∙ ap (λ o. option_or o (first_fault ys)) good

-- a fault comes before those of the next uses
pub first_fault-found : (xs ys : List Use) (e : TermError) → first_fault xs ≡ Some e → first_fault (xs ++ ys) ≡ Some e
first_fault-found xs ys e found = first_fault-append xs ys ∙ ap (λ o. option_or o (first_fault ys)) found

pub ruleset faults = (first_fault-good, first_fault-found)

-- the uses of the terms from one on are its own and those of the next
pub uses_of_all-at : (around : List Kind) (ts : List Term) (i : ℕ) (t : Term) → i < length ts → t ≡ get_or ts i t →
    uses_of_all around (drop i ts) ≡ uses_of around t ++ uses_of_all around (drop (i + 1) ts)
uses_of_all-at around ts i t within is =
    at_drop_more (uses_of_all around) ts i t within ∙ ap (λ x. uses_of around x ++ uses_of_all around (drop (i + 1) ts)) (sym is)
