-- The texts or values of some answers, one answer at a time.
use Rattle.std.proofs.Common.{◌≡◌, ◌+◌, ◌<◌, ◌≤◌, ℕ, Bool, true, false, cond, List, [], ◌∷◌, ◌++◌, length, drop, get_or, sym, ap, ◌∙◌, subst}
use Rattle.std.{proofs.{Common.{append_assoc, append-nil, add-one, suc}, Math.Seq.drop-cons, lemmas.List.drop_all}, specs.List.filter}

pub from_here : {A : Type 0} (all : List A) (i : ℕ) (a : A) → i < length all → a ≡ get_or all i a → drop i all ≡ a ∷ drop (i + 1) all
from_here all i a low is = rw add-one (drop-cons all i a low ∙ ap (λ x. x ∷ drop (suc i) all) (sym is))

-- The answers that are picked, and the texts or values that `put` makes of them, one after another: where those of the answers before number i, followed
-- by those of the others, are those of all, this stays so behind the next answer.
module _ {A P D : Type 0} (put : P → List D) (Is : A → P → Type 0) (Are : List A → List D → Type 0)
    (add : (a : A) (rest : List A) (p : P) (behind : List D) → Is a p → Are rest behind → Are (a ∷ rest) (put p ++ behind)) (picks : A → Bool) where
  pub listed : (all : List A) (i : ℕ) (a : A) (text new : List D) (p : P) → i < length all → a ≡ get_or all i a → picks a ≡ true → Is a p →
      new ≡ text ++ put p → ((behind : List D) → Are (filter picks (drop i all)) behind → Are (filter picks all) (text ++ behind)) →
      (behind : List D) → Are (filter picks (drop (i + 1) all)) behind → Are (filter picks all) (new ++ behind)
  listed all i a text new p low at so is new_is front behind h =
      let rest = filter picks (drop (i + 1) all) in
      let whole : Are (filter picks (a ∷ drop (i + 1) all)) (put p ++ behind) =
      subst (λ b. Are (cond b (a ∷ rest) rest) (put p ++ behind)) (sym so) (add a rest p behind is h) in
      let here : Are (filter picks (drop i all)) (put p ++ behind) =
      subst (λ xs. Are (filter picks xs) (put p ++ behind)) (sym (from_here all i a low at)) whole in
      subst (λ t. Are (filter picks all) t) (sym (ap (λ t. t ++ behind) new_is ∙ append_assoc text (put p) behind)) (front (put p ++ behind) here)

  pub passed : (all : List A) (i : ℕ) (a : A) (text new : List D) → i < length all → a ≡ get_or all i a → picks a ≡ false → new ≡ text →
      ((behind : List D) → Are (filter picks (drop i all)) behind → Are (filter picks all) (text ++ behind)) →
      (behind : List D) → Are (filter picks (drop (i + 1) all)) behind → Are (filter picks all) (new ++ behind)
  passed all i a text new low at so new_is front behind h =
      let rest = filter picks (drop (i + 1) all) in
      let whole : Are (filter picks (a ∷ drop (i + 1) all)) behind = subst (λ b. Are (cond b (a ∷ rest) rest) behind) (sym so) h in
      let here : Are (filter picks (drop i all)) behind = subst (λ xs. Are (filter picks xs) behind) (sym (from_here all i a low at)) whole in
      subst (λ t. Are (filter picks all) (t ++ behind)) (sym new_is) (front behind here)

pub all_listed : {A D : Type 0} (Are : List A → List D → Type 0) (picks : A → Bool) → Are [] [] → (all : List A) (i : ℕ) (text : List D) → length all ≤ i →
    ((behind : List D) → Are (filter picks (drop i all)) behind → Are (filter picks all) (text ++ behind)) → Are (filter picks all) text
all_listed Are picks nothing all i text past front =
    let none : Are (filter picks (drop i all)) [] = subst (λ xs. Are (filter picks xs) []) (sym (drop_all i all past)) nothing in
    subst (λ t. Are (filter picks all) t) (append-nil text) (front [] none)
