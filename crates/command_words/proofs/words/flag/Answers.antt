use Rattle.std.proofs.Common.{ap, ◌≡◌, ◌∙◌, Some}
use Rattle.clap.specs.declared.builder.action.ArgAction.TheVariants.{SetTrue}
use Rattle.clap.specs.Words.{Rule, rule_of}
use Rattle.command_words.proofs.words.flag.Goals as goal

pub returns-clause-rule : goal.returns-clause-rule
returns-clause-rule c =
    let spelled : rule_of c.long.result ≡ record (rule_of c.new.result) { long = Some c.args.name.now } = ap rule_of c.long.ensures in
    let helped : rule_of c.help.result ≡ rule_of c.long.result = ap rule_of c.help.ensures in
    let acted : rule_of c.action.result ≡ record (rule_of c.help.result) { action = Some SetTrue } = ap rule_of c.action.ensures in
    let spelled_is = spelled ∙ ap (λ (rule : Rule). record rule { long = Some c.args.name.now }) c.new.ensures.rule in
    let helped_is = helped ∙ spelled_is in
    acted ∙ ap (λ (rule : Rule). record rule { action = Some SetTrue }) helped_is
