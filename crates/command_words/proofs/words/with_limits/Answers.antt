use Rattle.std.proofs.Common.{ap₂, ◌≡◌, ◌∙◌, codes, refl}
use Rattle.std.proofs.lemmas.Result.{IfOk-weaker}
use Rattle.clap.specs.Words.{rule_of, with_rule}
use Rattle.command_words.specs.Words.{band_range, count_range, number_option}
use Rattle.command_words.proofs.WordLemmas.{kept}
use Rattle.command_words.proofs.words.with_limits.Goals as goal

pub returns-clause-shape : goal.returns-clause-shape
returns-clause-shape c =
    let fibers_is : rule_of c.number_option-fibers.result ≡ number_option (codes "fibers") band_range = c.number_option-fibers.ensures.rule in
    let refs_is : rule_of c.number_option-refs.result ≡ number_option (codes "refs") band_range = c.number_option-refs.ensures.rule in
    let deferreds_is : rule_of c.number_option-deferreds.result ≡ number_option (codes "deferreds") band_range = c.number_option-deferreds.ensures.rule in
    let count_is : rule_of c.number_option.result ≡ number_option (codes "count") count_range = c.number_option.ensures.rule in
    let one = c.in_ok-command.ensures.shape c.number_option-fibers.ensures.local ∙ ap₂ with_rule refl fibers_is in
    let two = c.in_ok-command-2.ensures.shape c.number_option-refs.ensures.local ∙ ap₂ with_rule one refs_is in
    let three = c.in_ok-command-3.ensures.shape c.number_option-deferreds.ensures.local ∙ ap₂ with_rule two deferreds_is in
    IfOk-weaker c.arg-4.result _ _ (λ m h. h.shape c.number_option.ensures.local ∙ ap₂ with_rule three count_is) c.arg-4.ensures

pub returns-clause-local : goal.returns-clause-local
returns-clause-local c =
    let one = kept _ _ _ _ c.in_ok-command.ensures.globals refl c.number_option-fibers.ensures.local in
    let two = kept _ _ _ _ c.in_ok-command-2.ensures.globals one c.number_option-refs.ensures.local in
    let three = kept _ _ _ _ c.in_ok-command-3.ensures.globals two c.number_option-deferreds.ensures.local in
    IfOk-weaker c.arg-4.result _ _ (λ m h. kept _ _ _ _ h.globals three c.number_option.ensures.local) c.arg-4.ensures
