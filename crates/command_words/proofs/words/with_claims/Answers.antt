use Rattle.std.proofs.Common.{ap₂, ◌≡◌, ◌∙◌, codes, refl}
use Rattle.std.proofs.lemmas.Result.{IfOk-weaker}
use Rattle.clap.specs.Words.{rule_of, with_rule}
use Rattle.command_words.specs.Words.{claim_option}
use Rattle.command_words.proofs.WordLemmas.{kept}
use Rattle.command_words.proofs.words.with_claims.Goals as goal

pub returns-clause-shape : goal.returns-clause-shape
returns-clause-shape c =
    let always_is : rule_of c.claim_option-always.result ≡ claim_option (codes "always") = c.claim_option-always.ensures.rule in
    let never_is : rule_of c.claim_option-never.result ≡ claim_option (codes "never") = c.claim_option-never.ensures.rule in
    let reach_is : rule_of c.claim_option.result ≡ claim_option (codes "reach") = c.claim_option.ensures.rule in
    let one = c.in_ok-command.ensures.shape c.claim_option-always.ensures.local ∙ ap₂ with_rule refl always_is in
    let two = c.in_ok-command-2.ensures.shape c.claim_option-never.ensures.local ∙ ap₂ with_rule one never_is in
    IfOk-weaker c.arg-3.result _ _ (λ m h. h.shape c.claim_option.ensures.local ∙ ap₂ with_rule two reach_is) c.arg-3.ensures

pub returns-clause-local : goal.returns-clause-local
returns-clause-local c =
    let one = kept _ _ _ _ c.in_ok-command.ensures.globals refl c.claim_option-always.ensures.local in
    let two = kept _ _ _ _ c.in_ok-command-2.ensures.globals one c.claim_option-never.ensures.local in
    IfOk-weaker c.arg-3.result _ _ (λ m h. kept _ _ _ _ h.globals two c.claim_option.ensures.local) c.arg-3.ensures
