-- The text of marks by its parts, and what a buffer has from an index on.
use Rattle.std.proofs.{Common.{◌≡◌, ℕ, ◌-◌, List, [], ◌∷◌, ◌++◌, codes, length, take, drop, refl, sym, ap, ◌∙◌, arith, append_assoc}, lemmas.List.length-drop}
use Rattle.std.{proofs.lemmas.{List.take_all, Str.{IsAscii-append, Ascii.{IsAscii-cons, IsAscii-nil}}}, specs.Str.IsAscii}
use Rattle.fiber_frames.specs.declared.mark.Mark.{Mark}
use Rattle.outcome_trace.specs.ReportText.{mark_text, later_marks_text}

pub later_marks_text-append : (xs ys : List Mark) →
    later_marks_text (xs ++ ys) ≡ later_marks_text xs ++ later_marks_text ys
later_marks_text-append [] ys = refl
later_marks_text-append (m ∷ xs) ys =
    ap (λ t. codes ", " ++ (mark_text m ++ t)) (later_marks_text-append xs ys)
    ∙ ap (λ t. codes ", " ++ t) (sym (append_assoc (mark_text m) (later_marks_text xs) (later_marks_text ys)))

pub first_mark-ascii : (m : Mark) → IsAscii (mark_text m) → IsAscii (codes ": " ++ mark_text m)
first_mark-ascii m h =
    IsAscii-cons 58 (32 ∷ mark_text m) (omega arith) (IsAscii-cons 32 (mark_text m) (omega arith) h)

pub head-ascii : (number outcome behind : List ℕ) → IsAscii number → IsAscii outcome → IsAscii behind →
    IsAscii (codes "fiber " ++ (number ++ (codes " " ++ (outcome ++ behind))))
head-ascii number outcome behind n o b =
    IsAscii-append (codes "fiber ") (number ++ (codes " " ++ (outcome ++ behind))) (IsAscii-append (codes "fibe") (codes "r ")
    (IsAscii-cons 102 (codes "ibe") (omega arith) (IsAscii-cons 105 (codes "be") (omega arith) (IsAscii-cons 98 (codes "e") (omega arith)
    (IsAscii-cons 101 [] (omega arith) IsAscii-nil))))
    (IsAscii-cons 114 (codes " ") (omega arith) (IsAscii-cons 32 [] (omega arith) IsAscii-nil)))
    (IsAscii-append number (codes " " ++ (outcome ++ behind)) n (IsAscii-cons 32 (outcome ++ behind) (omega arith) (IsAscii-append outcome behind o b)))

pub take-to_end : (n start : ℕ) (xs : List ℕ) → length xs ≡ n →
    take (n - start) (drop start xs) ≡ drop start xs
take-to_end n start xs long = take_all (n - start) (drop start xs) (omega (arith, length-drop start xs))
