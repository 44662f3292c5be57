use Rattle.std.proofs.Common.{ap₂, ◌≡◌, ◌∙◌, codes}
use Rattle.std.proofs.lemmas.Result.{IfOk-weaker}
use Rattle.clap.specs.Words.{rule_of, with_rule}
use Rattle.command_words.specs.Words.{jobs_range, memory_option, model_worlds_range, number_option, seconds_range}
use Rattle.command_words.proofs.WordLemmas.{kept}
use Rattle.command_words.proofs.test_words.test_bounds.Goals as goal

pub returns-clause-shape : goal.returns-clause-shape
returns-clause-shape c =
    let worlds_is : rule_of c.number_option.result ≡ number_option (codes "worlds") model_worlds_range = c.number_option.ensures.rule in
    let memory_is : rule_of c.memory_option.result ≡ memory_option = c.memory_option.ensures.rule in
    let seconds_is : rule_of c.number_option-seconds.result ≡ number_option (codes "seconds") seconds_range = c.number_option-seconds.ensures.rule in
    let total_is : rule_of c.number_option-total.result ≡ number_option (codes "total-seconds") seconds_range = c.number_option-total.ensures.rule in
    let jobs_is : rule_of c.number_option-2.result ≡ number_option (codes "jobs") jobs_range = c.number_option-2.ensures.rule in
    let one = c.in_ok-command-2.ensures.shape c.number_option.ensures.local ∙ ap₂ with_rule c.in_ok-command.ensures.shape worlds_is in
    let two = c.in_ok-command-3.ensures.shape c.memory_option.ensures.local ∙ ap₂ with_rule one memory_is in
    let three = c.in_ok-command-4.ensures.shape c.number_option-seconds.ensures.local ∙ ap₂ with_rule two seconds_is in
    let four = c.in_ok-command-5.ensures.shape c.number_option-total.ensures.local ∙ ap₂ with_rule three total_is in
    IfOk-weaker c.arg-5.result _ _ (λ m h. h.shape c.number_option-2.ensures.local ∙ ap₂ with_rule four jobs_is) c.arg-5.ensures

pub returns-clause-local : goal.returns-clause-local
returns-clause-local c =
    let one = kept _ _ _ _ c.in_ok-command-2.ensures.globals c.in_ok-command.ensures.local c.number_option.ensures.local in
    let two = kept _ _ _ _ c.in_ok-command-3.ensures.globals one c.memory_option.ensures.local in
    let three = kept _ _ _ _ c.in_ok-command-4.ensures.globals two c.number_option-seconds.ensures.local in
    let four = kept _ _ _ _ c.in_ok-command-5.ensures.globals three c.number_option-total.ensures.local in
    IfOk-weaker c.arg-5.result _ _ (λ m h. kept _ _ _ _ h.globals four c.number_option-2.ensures.local) c.arg-5.ensures
