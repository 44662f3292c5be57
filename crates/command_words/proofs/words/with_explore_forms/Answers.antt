use Rattle.std.proofs.Common.{ap₂, ◌∙◌, refl}
use Rattle.std.proofs.lemmas.Result.{IfOk-weaker}
use Rattle.clap.specs.Words.{with_rule}
use Rattle.command_words.proofs.words.with_explore_forms.Goals as goal

pub returns-clause-shape : goal.returns-clause-shape
returns-clause-shape c =
    let two = c.in_ok-timed.ensures.shape ∙ ap₂ with_rule c.in_ok-watched.ensures.shape refl in
    let three = c.in_ok-valued.ensures.shape ∙ ap₂ with_rule two refl in
    let four = c.in_ok-found.ensures.shape ∙ ap₂ with_rule three refl in
    IfOk-weaker c.with_flag-5.result _ _ (λ m h. h ∙ ap₂ with_rule four refl) c.with_flag-5.ensures.shape
