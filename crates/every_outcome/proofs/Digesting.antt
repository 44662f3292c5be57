-- Digests of the marks that are kept.
use Rattle.std.proofs.{Common.{◌≡◌, ℕ, ◌+◌, ◌<◌, Bool, true, false, cond, List, [], ◌∷◌, get_or, length, take, refl, sym, ap, ◌∙◌}, lemmas.List.Sums.fold_more}
use Rattle.std.specs.List.{fold}
use Rattle.fiber_frames.specs.declared.mark.Mark.{Mark}
use Rattle.every_schedule.specs.Digests.{with_mark}
use Rattle.every_outcome.specs.{Places.{keeps_mark, kept_marks}, Private.Digests.with_kept_mark}

one_kept : (keeps : Bool) (d : ℕ) (m : Mark) (ms : List Mark) →
    fold with_mark (cond keeps (with_mark d m) d) ms ≡ fold with_mark d (cond keeps (m ∷ ms) ms)
one_kept true d m ms = refl
one_kept false d m ms = refl

pub kept_fold : (says : Bool) (d : ℕ) (ms : List Mark) → fold (with_kept_mark says) d ms ≡ fold with_mark d (kept_marks says ms)
kept_fold says d [] = refl
kept_fold says d (m ∷ ms) = kept_fold says (with_kept_mark says d m) ms ∙ one_kept (keeps_mark says m) d m (kept_marks says ms)

-- one more element
pub fold_next : {A B : Type 0} (f : B → A → B) (a : B) (xs : List A) (i : ℕ) (d : A) (now next : B) → i < length xs → next ≡ f now (get_or xs i d) →
    now ≡ fold f a (take i xs) → next ≡ fold f a (take (i + 1) xs)
fold_next f a xs i d now next low e h = e ∙ ap (λ b. f b (get_or xs i d)) h ∙ sym (fold_more f a xs i d low)
