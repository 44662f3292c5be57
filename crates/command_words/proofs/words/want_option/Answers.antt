use Rattle.std.proofs.Common.{ap, ◌≡◌, ◌∙◌, codes, Some}
use Rattle.clap.specs.declared.builder.action.ArgAction.TheVariants.{Append}
use Rattle.clap.specs.Words.{Rule, rule_of}
use Rattle.command_words.proofs.words.want_option.Goals as goal

pub returns-clause-rule : goal.returns-clause-rule
returns-clause-rule c =
    let spelled : rule_of c.long.result ≡ record (rule_of c.new.result) { long = Some (codes "want") } = ap rule_of c.long.ensures in
    let valued : rule_of c.value_name.result ≡ record (rule_of c.long.result) { value_names = 1 } = ap rule_of c.value_name.ensures in
    let helped : rule_of c.help.result ≡ rule_of c.value_name.result = ap rule_of c.help.ensures in
    let acted : rule_of c.action.result ≡ record (rule_of c.help.result) { action = Some Append } = ap rule_of c.action.ensures in
    let spelled_is = spelled ∙ ap (λ (rule : Rule). record rule { long = Some (codes "want") }) c.new.ensures.rule in
    let valued_is = valued ∙ ap (λ (rule : Rule). record rule { value_names = 1 }) spelled_is in
    let helped_is = helped ∙ valued_is in
    acted ∙ ap (λ (rule : Rule). record rule { action = Some Append }) helped_is
