use Rattle.std.proofs.Common.{◌∙◌, ◌++◌, List, ap, ap₂, codes, map, ℕ}
use Rattle.std.specs.Borrow.{Bor}
use Rattle.std.proofs.lemmas.List.{map-append}
use Rattle.claim_words.proofs.Spellings.{spelled_more}
use Rattle.claim_words.proofs.spelled.more_operands.Goals as goal

pub invariant_of-result : goal.invariant_of-result
invariant_of-result c =
    let before = c.args.before in
    let part = c.args.part in record {
      spelled = spelled_more before.joint before.text.items part.text.items _ before.words.items part.words.items _ _ _ _ _ before.spelled part.spelled
          (c.in_ok-text.ensures ∙ ap₂ (λ s t. s ++ (codes " " ++ t)) c.as_slice.ensures.value c.as_slice-2.ensures.value)
          (c.in_ok-extend_from_slice.ensures.items ∙ ap (λ l. before.words.items ++ l) c.as_slice-3.ensures.value)
          c.in_ok-push.ensures.items
          (ap (map (λ (x : Bor (List ℕ)). x.now)) (c.in_ok-extend_from_slice-2.ensures.items ∙ ap (λ l. before.names.items ++ l) c.as_slice-4.ensures.value)
          ∙ map-append (λ (x : Bor (List ℕ)). x.now) before.names.items part.names.items);
    }
