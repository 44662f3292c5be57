-- The lines of wanted outcomes that no answer has, one at a time.
use Rattle.std.proofs.Common.{◌≡◌, ◌+◌, ◌<◌, ℕ, Bool, true, false, if◌then◌else◌, List, ◌++◌, length, drop, get_or, sym, ap, ◌∙◌}
use Rattle.std.proofs.Common.{append_assoc}
use Rattle.exploration_text.{specs.{declared.wants.Want.Want, Missing.{missing_line, missing_lines}}, proofs.Parts.from_here}

-- followed by the lines of the wants that are left, the text so far is that of all wants
abbrev pub IsFront : Bool → (Want → Bool) → List Want → ℕ → List ℕ → Type 0
IsFront all comes wants i text = text ++ missing_lines all comes (drop i wants) ≡ missing_lines all comes wants

pub passed_over : (all : Bool) (comes : Want → Bool) (wants : List Want) (i : ℕ) (w : Want) (text new : List ℕ) → i < length wants →
    w ≡ get_or wants i w → comes w ≡ true → new ≡ text → IsFront all comes wants i text → IsFront all comes wants (i + 1) new
passed_over all comes wants i w text new low at so is front =
    let rest = missing_lines all comes (drop (i + 1) wants) in
    let here : missing_lines all comes (drop i wants) ≡ rest =
    ap (missing_lines all comes) (from_here wants i w low at) ∙ ap (λ b. if b then rest else missing_line all w ++ rest) so in
    ap (λ t. t ++ rest) is ∙ ap (λ t. text ++ t) (sym here) ∙ front

pub named : (all : Bool) (comes : Want → Bool) (wants : List Want) (i : ℕ) (w : Want) (text new : List ℕ) → i < length wants → w ≡ get_or wants i w →
    comes w ≡ false → new ≡ text ++ missing_line all w → IsFront all comes wants i text → IsFront all comes wants (i + 1) new
named all comes wants i w text new low at so is front =
    let rest = missing_lines all comes (drop (i + 1) wants) in
    let here : missing_lines all comes (drop i wants) ≡ missing_line all w ++ rest =
    ap (missing_lines all comes) (from_here wants i w low at) ∙ ap (λ b. if b then rest else missing_line all w ++ rest) so in
    ap (λ t. t ++ rest) is ∙ append_assoc text (missing_line all w) rest ∙ ap (λ t. text ++ t) (sym here) ∙ front
