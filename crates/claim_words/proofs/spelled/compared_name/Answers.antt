use Rattle.std.proofs.Common.{◌∙◌, ◌++◌, ◌∷◌, [], ℕ, List, ap, map}
use Rattle.std.specs.Borrow.{Bor}
use Rattle.claim_words.proofs.Spellings.{spelled_name}
use Rattle.claim_words.proofs.spelled.compared_name.Goals as goal

pub invariant_of-result : goal.invariant_of-result
invariant_of-result c = record {
  spelled = spelled_name c.args.name.now c.args.how c.args.value _ _ _ _ c.in_ok-text.ensures c.in_ok-push.ensures.items c.new-words.ensures.items
      (ap (map (λ (x : Bor (List ℕ)). x.now)) (c.in_ok-push-2.ensures.items ∙ ap (λ l. l ++ c.args.name ∷ []) c.new-names.ensures.items));
}
