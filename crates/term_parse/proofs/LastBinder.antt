-- The last binder of a scope is looked at first.
use Rattle.std.proofs.Common.{◌≡◌, ◌≤◌, ◌+◌, ℕ, suc, Bool, true, false, List, [], ◌∷◌, ◌++◌, length, Option, Some, None, refl, ap, sym, subst, ◌∙◌, arith}
use Rattle.std.{proofs.lemmas.Slice.Eq.bytes_eq-Decides, specs.{List.slice_range, Str.bytes_eq}}
use Rattle.effect_term.specs.declared.term.Name.{Name}
use Rattle.term_parse.specs.{declared.scope.Binding.Binding, Reading.{Bound, find_from}, Bindings.{bounds, bound_of, hash_of, InText}}
use Rattle.term_parse.proofs.{ScopeLaws.find-from_innermost, Steps.bounds-append}

other_result : (x y : List ℕ) (b : Bool) → bytes_eq x y ≡ b → (hash_of x ≡ hash_of y → ⊥) → b ≡ false
other_result x y true e h = absurd (h (ap hash_of ((bytes_eq-Decides x y).0 e)))
other_result x y false e h = refl

pub other_hash : (x y : List ℕ) (h k : ℕ) → h ≡ hash_of x → k ≡ hash_of y → (h ≡ k → ⊥) → bytes_eq x y ≡ false
other_hash x y h k e f n = other_result x y (bytes_eq x y) refl (λ s. n (e ∙ s ∙ sym f))

bounds-length : (text : List ℕ) (bs : List Binding) → length (bounds text bs) ≡ length bs
bounds-length text [] = refl
bounds-length text (b ∷ bs) = ap (λ n. suc n) (bounds-length text bs)

find-from_other : (from : ℕ) (bs : List Bound) (b : Bound) (x : List ℕ) → bytes_eq b.spelling x ≡ false → find_from from (bs ++ b ∷ []) x ≡ find_from from bs x
unfolding find_from
find-from_other from [] b x e = rw e refl
find-from_other from (c ∷ bs) b x e = rw (find-from_other (suc from) bs b x e) refl

pub found_last : (text : List ℕ) (scope around : List Binding) (b : Binding) (x : List ℕ) → scope ≡ around ++ b ∷ [] →
    bytes_eq (slice_range text b.start b.end) x ≡ true → find_from 0 (bounds text scope) x ≡ Some (record { slot = length around; kind = b.kind })
found_last text scope around b x s e =
    let named : ℕ → Option Name = λ k. Some (record { slot = k; kind = b.kind }) in
    let at : 0 + length (bounds text around) ≡ length around = omega (arith, bounds-length text around) in
    let spelled : slice_range text b.start b.end ≡ x = (bytes_eq-Decides (slice_range text b.start b.end) x).0 e in
    let inner : find_from 0 (bounds text around ++ bound_of text b ∷ []) x ≡ named (0 + length (bounds text around)) =
    find-from_innermost 0 (bounds text around) (bound_of text b) [] x spelled tt in
    let parted : find_from 0 (bounds text (around ++ b ∷ [])) x ≡ find_from 0 (bounds text around ++ bound_of text b ∷ []) x =
    ap (λ (y : List Bound). find_from 0 y x) (bounds-append text around (b ∷ [])) in
    let found : find_from 0 (bounds text (around ++ b ∷ [])) x ≡ named (length around) = parted ∙ inner ∙ ap named at in
    subst (λ (y : List Binding). find_from 0 (bounds text y) x ≡ named (length around)) (sym s) found

pub found_around : (text : List ℕ) (scope around : List Binding) (b : Binding) (x : List ℕ) → scope ≡ around ++ b ∷ [] →
    bytes_eq (slice_range text b.start b.end) x ≡ false → find_from 0 (bounds text scope) x ≡ find_from 0 (bounds text around) x
found_around text scope around b x s e =
    ap (λ y. find_from 0 (bounds text y) x) s
    ∙ ap (λ y. find_from 0 y x) (bounds-append text around (b ∷ []))
    ∙ find-from_other 0 (bounds text around) (bound_of text b) x e

around_within : (text : List ℕ) (around : List Binding) (b : Binding) → InText text (around ++ b ∷ []) → InText text around
around_within text [] b h = tt
around_within text (c ∷ around) b h = (h.0, h.1, h.2, around_within text around b h.3)

last_within : (text : List ℕ) (around : List Binding) (b : Binding) → InText text (around ++ b ∷ []) → (b.start ≤ b.end) × (b.end ≤ length text)
last_within text [] b h = (h.0, h.1)
last_within text (c ∷ around) b h = last_within text around b h.3

pub around_in_text : (text : List ℕ) (scope around : List Binding) (b : Binding) → scope ≡ around ++ b ∷ [] → InText text scope → InText text around
around_in_text text scope around b s h = around_within text around b (subst (InText text) s h)

pub last_in_text : (text : List ℕ) (scope around : List Binding) (b : Binding) → scope ≡ around ++ b ∷ [] → InText text scope → (b.start ≤ b.end) ×
    (b.end ≤ length text)
last_in_text text scope around b s h = last_within text around b (subst (InText text) s h)

last_hash : (text : List ℕ) (around : List Binding) (b : Binding) → InText text (around ++ b ∷ []) →
    b.hash ≡ hash_of (slice_range text b.start b.end)
last_hash text [] b h = h.2
last_hash text (c ∷ around) b h = last_hash text around b h.3

pub last_hashed : (text : List ℕ) (scope around : List Binding) (b : Binding) → scope ≡ around ++ b ∷ [] →
    InText text scope → b.hash ≡ hash_of (slice_range text b.start b.end)
last_hashed text scope around b s h = last_hash text around b (subst (InText text) s h)

pub found_none : (text : List ℕ) (scope : List Binding) (x : List ℕ) → length scope ≡ 0 → find_from 0 (bounds text scope) x ≡ None
unfolding find_from
found_none text [] x h = refl
found_none text (b ∷ scope) x h = absurd (omega arith)
