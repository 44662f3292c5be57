use Rattle.std.proofs.Common.{◌≡◌, ◌∷◌, ◌++◌, ◌∙◌, ap, append_assoc, codes, rules, string_bytes, subst}
use Rattle.comparison_answers.specs.ComparisonText.{IsExtraText}
use Rattle.comparison_answers.proofs.texts.text_of_comparison.Goals as goal

pub returns : goal.returns
returns c =
    let it = c.args.it.now in
    let one = c.in_ok-one.one.items in
    let other = c.in_ok-other.other.items in
    let bytes : c.into_bytes-text.result.items ≡ string_bytes c.in_ok-heads.field-0 = search rules in
    let first : c.extend_from_slice.new.self.items ≡ c.into_bytes-text.result.items ++ one =
    c.in_ok-extend_from_slice.ensures.items ∙ ap (λ t. c.into_bytes-text.result.items ++ t) c.as_slice-3.ensures.value in
    let second : c.extend_from_slice-2.new.self.items ≡ c.extend_from_slice.new.self.items ++ other =
    c.in_ok-extend_from_slice-2.ensures.items ∙ ap (λ t. c.extend_from_slice.new.self.items ++ t) c.as_slice-4.ensures.value in
    record {
      first = one;
      second = other;
      text_is = second ∙ ap (λ t. t ++ other) first ∙ append_assoc c.into_bytes-text.result.items one other
          ∙ ap (λ t. t ++ (one ++ other)) (bytes ∙ c.in_ok-heads.ensures);
      first_is = subst (λ l. IsExtraText (10 ∷ codes "only the first:") l it.first_extra one) c.as_slice.ensures c.in_ok-one.ensures;
      second_is = subst (λ l. IsExtraText (10 ∷ codes "only the second:") l it.second_extra other) c.as_slice-2.ensures c.in_ok-other.ensures;
    }
