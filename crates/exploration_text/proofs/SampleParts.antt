-- The text of some answers, one answer at a time.
use Rattle.std.proofs.Common.{◌≡◌, ◌+◌, ◌<◌, ◌≤◌, ℕ, List, [], ◌∷◌, ◌++◌, length, drop, get_or, refl, sym, ap, ◌∙◌, subst, append_assoc, append-nil, add-one}
use Rattle.std.proofs.{Common.suc, Math.Seq.drop-cons, lemmas.List.drop_all}
use Rattle.sampled_schedules.specs.declared.comings.Coming.{Coming}
use Rattle.exploration_text.specs.{declared.wants.Want.Want, SampleText.{AreComingsText, IsComingText}}

-- followed by the text of the answers from number i on, the text is that of all answers
abbrev pub IsFront : List Want → List Coming → ℕ → List ℕ → Type 0
IsFront wants all i text = (behind : List ℕ) → AreComingsText wants (drop i all) behind → AreComingsText wants all (text ++ behind)

pub told : (wants : List Want) (all : List Coming) (i : ℕ) (c : Coming) (text part new : List ℕ) → i < length all → c ≡ get_or all i c → IsComingText wants c part → new ≡ text ++ part →
    IsFront wants all i text → IsFront wants all (i + 1) new
told wants all i c text part new low at is new_is front = λ behind h.
    let from_here : drop i all ≡ c ∷ drop (i + 1) all = rw add-one (drop-cons all i c low ∙ ap (λ x. x ∷ drop (suc i) all) (sym at)) in
    let first : AreComingsText wants (c ∷ drop (i + 1) all) (part ++ behind) = (part, behind, refl, is, h) in
    let here : AreComingsText wants (drop i all) (part ++ behind) = subst (λ xs. AreComingsText wants xs (part ++ behind)) (sym from_here) first in
    subst (λ t. AreComingsText wants all t) (sym (ap (λ t. t ++ behind) new_is ∙ append_assoc text part behind)) (front (part ++ behind) here)

pub all_told : (wants : List Want) (all : List Coming) (i : ℕ) (text : List ℕ) → length all ≤ i → IsFront wants all i text → AreComingsText wants all text
all_told wants all i text past front =
    let none : AreComingsText wants (drop i all) [] = subst (λ xs. AreComingsText wants xs []) (sym (drop_all i all past)) refl in
    subst (λ t. AreComingsText wants all t) (append-nil text) (front [] none)
