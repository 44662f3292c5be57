use Rattle.std.proofs.Common.{◌≡◌, ◌++◌, ◌∙◌, ap, rules, string_bytes}
use Rattle.ending_answers.proofs.texts.text_of_decided.Goals as goal

pub returns : goal.returns
returns c =
    let explored = c.in_ok-text.text.items in
    let ending = c.in_ok-ending.ending in
    let bytes : c.extend_from_slice.new.self.items ≡ explored ++ string_bytes ending =
    c.in_ok-extend_from_slice.ensures.items ∙ ap (λ t. explored ++ t) (search rules) in
    record {
      explored = explored;
      ending = string_bytes ending;
      text_is = bytes;
      explored_is = c.in_ok-text.ensures;
      ending_is = c.in_ok-ending.ensures;
    }
