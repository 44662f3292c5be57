use Rattle.std.proofs.{Common.{◌≡◌, ◌-◌, ◌%◌, ◌^◌, sym, ap, ◌∙◌, arith, pos, negsuc, bit_and}, lemmas.{Int.ints, Nat.and_mask}}
use Rattle.effect_term.{specs.Values.{bits_value, value_bits}, proofs.ValueLaws.{low_value, high_value, back, bits_lt}}
use Rattle.control_word.proofs.value_words.word_value.Goals.{then-bits, else-bits}
use Rattle.control_word.proofs.value_words.word_value.Goals as goal

pub returns-clause-value : goal.returns-clause-value
returns-clause-value c =
    let mask : bit_and c.args.word 9223372036854775807 ≡ c.args.word % 2 ^ 63 = and_mask c.args.word 63 in
    let is = c.in-Some.ensures.some in
    elim c.if-bits.branch [
      | then-bits w ↦
          let small = w.if-bits.true in
          let n = w.number-is in
          let z : c.in-Some.value ≡ pos (c.args.word % 2 ^ 63) = omega (arith, ints) in
          z ∙ sym (low_value (c.args.word % 2 ^ 63) (omega arith))
      | else-bits w ↦
          let great = w.if-bits.false in
          let n = w.number-is in
          let z : c.in-Some.value ≡ negsuc (2 ^ 63 - 1 - c.args.word % 2 ^ 63) = omega (arith, ints) in
          z ∙ sym (high_value (c.args.word % 2 ^ 63) (omega arith))
    ]

pub returns-clause-inverse : goal.returns-clause-inverse
returns-clause-inverse c v f e =
    let low = bits_lt v in
    let same : c.args.word % 2 ^ 63 ≡ value_bits v = omega arith in
    returns-clause-value c ∙ ap bits_value same ∙ back v f
