-- The numbers of what is written are in the range of values.
use Rattle.std.proofs.{Common.{◌≡◌, ◌-◌, ◌≤◌, List, [], ◌∷◌, ◌++◌, length, get_or, take, drop, Option, Some, None, sym, subst, arith}, Math.Seq.take_all}
use Rattle.effect_term.specs.declared.term.{Operand.TheVariants.{Number, Named}, Term.Term}
use Rattle.term_parse.specs.{declared.{printer.PrintedPart.PrintedPart, table.Part.{Part, TheVariants.{More, Close}}}, Atoms.{Atom, word, value, name, ended}}
use Rattle.term_parse.specs.{Numbers.NumbersFit, PrintedParts.{piece_atoms, pieces_atoms, terms_atoms, Spent, Suffice}}

pub join_numbers : (xs ys : List Atom) → NumbersFit xs → NumbersFit ys → NumbersFit (xs ++ ys)
join_numbers [] ys h k = k
join_numbers (word w ∷ xs) ys h k = join_numbers xs ys h k
join_numbers (value (Number n) ∷ xs) ys h k = (h.0, join_numbers xs ys h.1 k)
join_numbers (value (Named n) ∷ xs) ys h k = join_numbers xs ys h k
join_numbers (name n ∷ xs) ys h k = join_numbers xs ys h k
join_numbers (ended ∷ xs) ys h k = join_numbers xs ys h k

spent_numbers : (q : List (Option PrintedPart)) (xs : List Atom) → Spent q → NumbersFit xs → NumbersFit (pieces_atoms q xs)
spent_numbers [] xs s h = h
spent_numbers (None ∷ q) xs s h = h
spent_numbers (Some x ∷ q) xs s h = absurd s

suffice_close : (parts : List Part) (d : Part) (q : List (Option PrintedPart)) (more : List Term) → 1 ≤ length parts → get_or parts 0 d ≡ Close →
    Suffice parts q more → Spent q × (more ≡ [])
suffice_close [] d q more l e s = absurd s
suffice_close (p ∷ ps) d q more l e s = subst (λ (x : Part). Suffice (x ∷ ps) q more) e s

suffice_more : (parts : List Part) (d : Part) (q : List (Option PrintedPart)) (more : List Term) → 1 ≤ length parts → get_or parts 0 d ≡ More →
    Suffice parts q more → Spent q
suffice_more [] d q more l e s = absurd s
suffice_more (p ∷ ps) d q more l e s = subst (λ (x : Part). Suffice (x ∷ ps) q more) e s

pub close_numbers : (parts : List Part) (d : Part) (q : List (Option PrintedPart)) (more : List Term) → 1 ≤ length parts → get_or parts 0 d ≡ Close →
    Suffice parts q more → NumbersFit (pieces_atoms q (terms_atoms more (ended ∷ [])))
close_numbers parts d q more l e s =
    let spent = suffice_close parts d q more l e s in
    spent_numbers q (terms_atoms more (ended ∷ [])) spent.0 (subst (λ (x : List Term). NumbersFit (terms_atoms x (ended ∷ []))) (sym spent.1) tt)

pub more_numbers : (parts : List Part) (d : Part) (q : List (Option PrintedPart)) (more : List Term) (xs : List Atom) → 1 ≤ length parts →
    get_or parts 0 d ≡ More → Suffice parts q more → NumbersFit xs → NumbersFit (pieces_atoms q xs)
more_numbers parts d q more xs l e s h = spent_numbers q xs (suffice_more parts d q more l e s) h

rest_is : {A : Type 0} (x : A) (xs : List A) → take (length (x ∷ xs) - 1) (drop 1 (x ∷ xs)) ≡ xs
rest_is x xs = take_all (length (x ∷ xs) - 1) xs (omega arith)

pub piece_numbers : (pieces : List (Option PrintedPart)) (e : Option PrintedPart) (piece : PrintedPart) (end : List Atom) → 1 ≤ length pieces →
    get_or pieces 0 e ≡ Some piece → NumbersFit (piece_atoms piece) → NumbersFit (pieces_atoms (take (length pieces - 1) (drop 1 pieces)) end) →
    NumbersFit (pieces_atoms pieces end)
piece_numbers [] e piece end l q h k = absurd (omega arith)
piece_numbers (x ∷ xs) e piece end l q h k =
    subst (λ (y : Option PrintedPart). NumbersFit (pieces_atoms (y ∷ xs) end)) (sym q)
    (join_numbers (piece_atoms piece) (pieces_atoms xs end) h (subst (λ (ys : List (Option PrintedPart)). NumbersFit (pieces_atoms ys end)) (rest_is x xs) k))
