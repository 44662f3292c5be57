-- The stack of truths after one more word.
use Rattle.std.proofs.{Common.{◌≡◌, ◌<◌, ◌+◌, ◌++◌, ℕ, ℤ, Bool, List, [], ◌∷◌, Option, length, get_or, take, ap, sym, ◌∙◌}, lemmas.List.Sums.fold_more}
use Rattle.std.specs.List.{fold}
use Rattle.model_terms.specs.declared.source.Source.{Source}
use Rattle.model_claims.specs.{declared.{answer.Seen.Seen, condition.{Condition.Condition, Word.Word}}, Conditions.{step, word_rest, word_truth}}

pub one_more : (source : Source) (c : Condition) (seen : Seen) (held : Option ℤ) (s0 : List Bool) (ws : List Word) (i : ℕ) (w : Word) (s rest new : List Bool) (t : Bool) →
    i < length ws → w ≡ get_or ws i w → s ≡ fold (λ s w. step source c seen held s w) s0 (take i ws) →
    t ≡ word_truth source c seen held w s → rest ≡ word_rest w s → new ≡ rest ++ (t ∷ []) →
    new ≡ fold (λ s w. step source c seen held s w) s0 (take (i + 1) ws)
one_more source c seen held s0 ws i w s rest new t low at before truth left put =
    let F : List Bool → Word → List Bool = λ s w. step source c seen held s w in
    put ∙ ap (λ r. r ++ (t ∷ [])) left ∙ ap (λ b. word_rest w s ++ (b ∷ [])) truth
    ∙ ap (λ x. F x w) before
    ∙ ap (λ x. F (fold F s0 (take i ws)) x) at
    ∙ sym (fold_more F s0 ws i w low)
