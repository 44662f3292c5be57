use Rattle.std.proofs.Common.{ap₂, ◌≡◌, ◌∙◌, refl}
use Rattle.std.proofs.lemmas.Result.{IfOk-weaker}
use Rattle.clap.specs.Words.{rule_of, with_rule}
use Rattle.command_words.specs.Words.{text_option}
use Rattle.command_words.proofs.WordLemmas.{kept}
use Rattle.command_words.proofs.test_words.with_text.Goals as goal

pub returns-clause-shape : goal.returns-clause-shape
returns-clause-shape c =
    let option_is : rule_of c.text_option-option.result ≡ text_option c.args.name.now = c.text_option-option.ensures.rule in
    IfOk-weaker c.arg.result _ _ (λ m h. h.shape c.text_option-option.ensures.local ∙ ap₂ with_rule refl option_is) c.arg.ensures

pub returns-clause-local : goal.returns-clause-local
returns-clause-local c =
    IfOk-weaker c.arg.result _ _ (λ m h. kept _ _ _ _ h.globals refl c.text_option-option.ensures.local) c.arg.ensures
