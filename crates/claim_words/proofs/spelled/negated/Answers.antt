use Rattle.std.proofs.Common.{◌∙◌, ◌++◌, ap, codes}
use Rattle.claim_words.proofs.Spellings.{spelled_not}
use Rattle.claim_words.proofs.spelled.negated.Goals as goal

pub invariant_of-result : goal.invariant_of-result
invariant_of-result c = record {
  spelled = spelled_not _ _ _ _ _ c.args.part.spelled
      (c.in_ok-text.ensures ∙ ap (λ s. codes "(not " ++ (s ++ codes ")")) c.as_slice.ensures.value) c.in_ok-push.ensures.items;
}
