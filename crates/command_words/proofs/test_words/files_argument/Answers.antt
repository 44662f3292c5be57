use Rattle.std.proofs.Common.{ap, ◌≡◌, ◌∙◌, Some, true}
use Rattle.clap.specs.declared.builder.action.ArgAction.TheVariants.{Append}
use Rattle.clap.specs.Words.{Rule, rule_of}
use Rattle.command_words.proofs.test_words.files_argument.Goals as goal

pub returns-clause-rule : goal.returns-clause-rule
returns-clause-rule c =
    let valued : rule_of c.value_name.result ≡ record (rule_of c.new.result) { value_names = 1 } = ap rule_of c.value_name.ensures in
    let helped : rule_of c.help.result ≡ rule_of c.value_name.result = ap rule_of c.help.ensures in
    let needed : rule_of c.required.result ≡ record (rule_of c.help.result) { required = true } = ap rule_of c.required.ensures in
    let acted : rule_of c.action.result ≡ record (rule_of c.required.result) { action = Some Append } = ap rule_of c.action.ensures in
    let valued_is = valued ∙ ap (λ (rule : Rule). record rule { value_names = 1 }) c.new.ensures.rule in
    let helped_is = helped ∙ valued_is in
    let needed_is = needed ∙ ap (λ (rule : Rule). record rule { required = true }) helped_is in
    acted ∙ ap (λ (rule : Rule). record rule { action = Some Append }) needed_is
