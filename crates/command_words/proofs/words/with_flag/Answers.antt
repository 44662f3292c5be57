use Rattle.std.proofs.Common.{ap₂, ◌≡◌, ◌∙◌, refl}
use Rattle.std.proofs.lemmas.Result.{IfOk-weaker}
use Rattle.clap.specs.Words.{rule_of, with_rule}
use Rattle.command_words.specs.Words.{flag}
use Rattle.command_words.proofs.WordLemmas.{kept}
use Rattle.command_words.proofs.words.with_flag.Goals as goal

pub returns-clause-shape : goal.returns-clause-shape
returns-clause-shape c =
    let flag_is : rule_of c.flag-flag.result ≡ flag c.args.name.now = c.flag-flag.ensures.rule in
    IfOk-weaker c.arg.result _ _ (λ m h. h.shape c.flag-flag.ensures.local ∙ ap₂ with_rule refl flag_is) c.arg.ensures

pub returns-clause-local : goal.returns-clause-local
returns-clause-local c =
    IfOk-weaker c.arg.result _ _ (λ m h. kept _ _ _ _ h.globals refl c.flag-flag.ensures.local) c.arg.ensures
