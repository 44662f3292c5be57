use Rattle.std.proofs.Common.{◌∙◌, ◌++◌, ap, codes}
use Rattle.claim_words.specs.Spelling.{joint_text}
use Rattle.claim_words.proofs.Spellings.{spelled_joint}
use Rattle.claim_words.proofs.spelled.joined.Goals as goal

pub invariant_of-result : goal.invariant_of-result
invariant_of-result c = record {
  spelled = spelled_joint c.args.parts.joint _ _ _ _ c.args.parts.spelled
      (c.in_ok-text.ensures ∙ ap (λ s. codes "(" ++ (joint_text c.args.parts.joint ++ (s ++ codes ")"))) c.as_slice.ensures.value);
}
