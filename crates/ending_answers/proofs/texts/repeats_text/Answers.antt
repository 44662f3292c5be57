use Rattle.std.{proofs.Common.{◌≡◌, ◌++◌, ◌∷◌, [], ◌∙◌, ℕ, List, ap, append_assoc}, specs.Prelude.codes}
use Rattle.ending_answers.proofs.texts.repeats_text.Goals as goal

joined : (f s m g e a b c d t : List ℕ) → a ≡ f → b ≡ a ++ s → c ≡ b ++ m → d ≡ c ++ g → t ≡ d ++ e →
    t ≡ f ++ (s ++ (m ++ (g ++ e)))
joined f s m g e a b c d t h0 h1 h2 h3 h4 =
    h4 ∙ ap (λ x. x ++ e) (h3 ∙ ap (λ x. x ++ g) (h2 ∙ ap (λ x. x ++ m) (h1 ∙ ap (λ x. x ++ s) h0)))
    ∙ append_assoc ((f ++ s) ++ m) g e ∙ append_assoc (f ++ s) m (g ++ e) ∙ append_assoc f s (m ++ (g ++ e))

pub returns : goal.returns
returns c = joined (10 ∷ codes "a fair schedule goes on for ever: first " ++ 34 ∷ []) c.args.stem.now
    (34 ∷ codes ", then again and again " ++ 34 ∷ []) c.args.again.now (34 ∷ 10 ∷ []) _ _ _ _ _
    c.in_ok-text.ensures.ok c.in_ok-push_str.ensures.bytes c.in_ok-push_str-2.ensures.bytes
    c.in_ok-push_str-3.ensures.bytes c.in_ok-push_str-4.ensures.bytes
