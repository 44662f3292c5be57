use Rattle.std.proofs.Common.{◌≡◌, ◌∙◌, ap, pos, rules, Some}
use Rattle.std.specs.Ordering.{nat_cmp, ord_max}
use Rattle.std.specs.Int.{saturate_unsigned, w64}
use Rattle.clap.specs.declared.builder.action.ArgAction.TheVariants.{Set}
use Rattle.clap.specs.declared.builder.value_parser.ValueParser.{ValueParser}
use Rattle.clap.specs.Values.{unsigned_up_to}
use Rattle.clap.specs.Words.{Rule, new_rule, rule_of}
use Rattle.command_words.proofs.RangeLemmas.{narrowed}
use Rattle.command_words.proofs.words.number_option.Goals as goal

pub returns-clause-rule : goal.returns-clause-rule
returns-clause-rule c =
    let range = c.args.range in
    let by : ValueParser → Rule = λ p. record (new_rule c.args.name.now) { long = Some c.args.name.now; value_names = 1; action = Some Set; parser = Some p } in
    let is : rule_of c.value_parser-2.result ≡ by (unsigned_up_to (ord_max nat_cmp 0 (saturate_unsigned w64 (pos range.least))) 18446744073709551615
    (Some (pos range.most))) = search rules in
    is ∙ ap by (narrowed range.least range.most (search rules) (search rules))
