use Rattle.std.proofs.Common.{ap₂, ◌∙◌, refl}
use Rattle.std.proofs.lemmas.Result.{IfOk-weaker}
use Rattle.clap.specs.Words.{with_rule}
use Rattle.command_words.proofs.words.with_marks.Goals as goal

pub returns-clause-shape : goal.returns-clause-shape
returns-clause-shape c =
    IfOk-weaker c.with_text-2.result _ _ (λ m h. h ∙ ap₂ with_rule c.in_ok-marked.ensures.shape refl) c.with_text-2.ensures.shape
