use Rattle.std.proofs.Common.{◌∙◌, ℕ, List, ap, map}
use Rattle.std.specs.Borrow.{Bor}
use Rattle.claim_words.proofs.Spellings.{spelled_number}
use Rattle.claim_words.proofs.spelled.compared_number.Goals as goal

pub invariant_of-result : goal.invariant_of-result
invariant_of-result c = record {
  spelled = spelled_number c.args.number c.args.how c.args.value _ _ _ _ _ c.in_ok-text.ensures
      (c.as_bytes.ensures.value ∙ c.format.ensures.text) c.in_ok-push.ensures.items c.new-words.ensures.items
      (ap (map (λ (x : Bor (List ℕ)). x.now)) c.new.ensures.items);
}
