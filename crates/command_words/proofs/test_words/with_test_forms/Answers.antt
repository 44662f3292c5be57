use Rattle.std.proofs.Common.{ap₂, ◌∙◌, refl}
use Rattle.std.proofs.lemmas.Result.{IfOk-weaker}
use Rattle.clap.specs.Words.{with_rule}
use Rattle.command_words.proofs.test_words.with_test_forms.Goals as goal

pub returns-clause-shape : goal.returns-clause-shape
returns-clause-shape c =
    let two = c.in_ok-spelled.ensures.shape ∙ ap₂ with_rule c.in_ok-listed.ensures.shape refl in
    IfOk-weaker c.with_flag-3.result _ _ (λ m h. h ∙ ap₂ with_rule two refl) c.with_flag-3.ensures.shape
