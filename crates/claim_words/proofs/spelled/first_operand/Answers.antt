use Rattle.std.proofs.Common.{◌∙◌, ◌++◌, ap, codes}
use Rattle.claim_words.proofs.Spellings.{spelled_first}
use Rattle.claim_words.proofs.spelled.first_operand.Goals as goal

pub invariant_of-result : goal.invariant_of-result
invariant_of-result c = record {
  spelled = spelled_first c.args.joint _ _ _ _ c.args.part.spelled
      (c.in_ok-text.ensures ∙ ap (λ s. codes " " ++ s) c.as_slice.ensures.value);
}
