-- When the reports of two fibers, and of two lists of fibers, are one.
use Rattle.std.proofs.Common.{◌≡◌, ◌≢◌, ◌<◌, ℕ, zero, suc, Bool, false, true, List, [], ◌∷◌, length, get_or, map, Option, sym, ap, ap₂, ◌∙◌, arith}
use Rattle.std.{proofs.lemmas.{Bool.Decides.{Decides-eqb, Decides-int_eq, Decides-like, not_from_Decides}, Slice.Eq.slice_eq-Decides}, specs.Bool.Decides}
use Rattle.std.specs.Cmp.Lexicographic.{pointwise}
use Rattle.effect_term.specs.declared.reply.Outcome.{Outcome}
use Rattle.fiber_frames.specs.declared.mark.Mark.{Mark, TheVariants.{Say, Enter, Leave, PollIn, PollOut, Cut, Acquired, Releasing, Released, Dropped}}
use Rattle.fiber_frames.specs.Fiber.{Fiber, outcome_of}
use Rattle.scheduled_core.specs.{declared.report.FiberReport.FiberReport, Core.fiber_report}
use Rattle.fiber_frames.specs.contracts.mark.MarkPartialEq.TheImpl as derived

mark_decides : (a b : Mark) → Decides (derived.eq-value.it a b) (a ≡ b)
mark_decides (Say v) (Say w) = Decides-like _ (ap Say) (λ e. cc) (Decides-int_eq v w)
mark_decides (Enter m) (Enter n) = Decides-like _ (ap Enter) (λ e. cc) (Decides-eqb m n)
mark_decides (Leave m) (Leave n) = Decides-like _ (ap Leave) (λ e. cc) (Decides-eqb m n)
mark_decides (PollIn m) (PollIn n) = Decides-like _ (ap PollIn) (λ e. cc) (Decides-eqb m n)
mark_decides (PollOut m) (PollOut n) = Decides-like _ (ap PollOut) (λ e. cc) (Decides-eqb m n)
mark_decides Cut Cut = (λ h. cc, λ e. cc)
mark_decides (Acquired m) (Acquired n) = Decides-like _ (ap Acquired) (λ e. cc) (Decides-eqb m n)
mark_decides (Releasing m) (Releasing n) = Decides-like _ (ap Releasing) (λ e. cc) (Decides-eqb m n)
mark_decides (Released m) (Released n) = Decides-like _ (ap Released) (λ e. cc) (Decides-eqb m n)
mark_decides (Dropped v) (Dropped w) = Decides-like _ (ap Dropped) (λ e. cc) (Decides-int_eq v w)
mark_decides a b = (λ h. cc, λ e. cc)

-- what `==` tells of the marks of two fibers
pub marks_decide : (xs ys : List Mark) (r : Bool) → r ≡ pointwise derived.eq-value.it xs ys → Decides r (xs ≡ ys)
marks_decide xs ys r is = slice_eq-Decides mark_decides xs ys r is

-- a report is of an outcome and of marks
told : Option Outcome → List Mark → FiberReport
told o ms = record { outcome = o; marks = ms }

pub reports_alike : (a b : Fiber) → outcome_of a ≡ outcome_of b → a.marks ≡ b.marks → fiber_report a ≡ fiber_report b
unfolding told
reports_alike a b os ms = ap₂ told os ms

pub reports_apart : (a b : Fiber) (xs ys : List Mark) (r : Bool) → xs ≡ a.marks → ys ≡ b.marks → r ≡ pointwise derived.eq-value.it xs ys →
    r ≡ false → fiber_report a ≢ fiber_report b
reports_apart a b xs ys r ex ey is differs = λ same.
    not_from_Decides r (marks_decide xs ys r is) differs (ex ∙ ap (λ (f : FiberReport). f.marks) same ∙ sym ey)

-- two reports of a fiber are one where their outcomes and their marks are
pub fibers_same : (a b : FiberReport) → a.outcome ≡ b.outcome → a.marks ≡ b.marks → a ≡ b
unfolding told
fibers_same a b os ms = ap₂ told os ms

-- what `==` tells of marks that were read
pub marks_same : (a b xs ys : List Mark) (r : Bool) → xs ≡ a → ys ≡ b → r ≡ pointwise derived.eq-value.it xs ys → r ≡ true → a ≡ b
marks_same a b xs ys r ex ey is same = sym ex ∙ (marks_decide xs ys r is).0 same ∙ ey

pub marks_other : (a b xs ys : List Mark) (r : Bool) → xs ≡ a → ys ≡ b → r ≡ pointwise derived.eq-value.it xs ys → r ≡ false → a ≢ b
marks_other a b xs ys r ex ey is other = λ same. not_from_Decides r (marks_decide xs ys r is) other (ex ∙ same ∙ sym ey)

-- two lists differ where what is told of two elements at one index does
pub maps_apart : {A B : Type 0} (f : A → B) (xs ys : List A) (i : ℕ) (x y : A) → i < length xs → i < length ys → x ≡ get_or xs i x →
    y ≡ get_or ys i y → f x ≢ f y → map f xs ≢ map f ys
maps_apart f [] ys i x y h l ex ey apart = absurd (omega arith)
maps_apart f (v ∷ xs) [] i x y h l ex ey apart = absurd (omega arith)
maps_apart f (v ∷ xs) (w ∷ ys) zero x y h l ex ey apart = λ same.
    let heads : f v ≡ f w = cc in
    apart (ap f ex ∙ heads ∙ ap f (sym ey))
maps_apart f (v ∷ xs) (w ∷ ys) (suc i) x y h l ex ey apart = λ same.
    let tails : map f xs ≡ map f ys = cc in
    maps_apart f xs ys i x y (omega arith) (omega arith) ex ey apart tails

-- two lists differ where two elements at one index do
pub lists_apart : {A : Type 0} (xs ys : List A) (i : ℕ) (x y : A) → i < length xs → i < length ys → x ≡ get_or xs i x → y ≡ get_or ys i y →
    x ≢ y → xs ≢ ys
lists_apart xs ys i x y h l ex ey apart = λ same. maps_apart (λ v. v) xs ys i x y h l ex ey apart (ap (map (λ v. v)) same)
