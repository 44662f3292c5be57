use Rattle.std.proofs.Common.{◌∙◌, ℕ, List, ap, map}
use Rattle.std.specs.Borrow.{Bor}
use Rattle.claim_words.proofs.Spellings.{spelled_world}
use Rattle.claim_words.proofs.spelled.whole_claim.Goals as goal

pub invariant_of-result : goal.invariant_of-result
invariant_of-result c = record {
  spelled = spelled_world c.args.whole _ _ _ _ (c.in_ok-text.ensures.items ∙ c.whole_text.ensures) c.in_ok-push.ensures.items c.new-words.ensures.items
      (ap (map (λ (x : Bor (List ℕ)). x.now)) c.new.ensures.items);
}
