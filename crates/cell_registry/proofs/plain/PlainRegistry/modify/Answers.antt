use Rattle.cell_registry.proofs.Prelude.{◌≡◌, ℕ, ◌<◌, ◌+◌, ◌%◌, ◌^◌, length, ap, sym, subst, ◌∙◌, get_or, refl, arith, ℤ, pos, ◌+ℤ◌, get_or_default, Value}
use Rattle.cell_registry.proofs.Prelude.{IsValue, value_bits, bits_value, wrapped, bits_lt, sum_bits, from_bits, after, reply_of, refusal, IsAllowed}
use Rattle.cell_registry.proofs.plain.PlainRegistry.modify.Goals as goal

-- the bits of a sum, in a word
added : (x v : ℤ) (m n k : ℕ) → m ≡ value_bits x → n ≡ value_bits v → k ≡ (m + n) % 2 ^ 64 → IsValue x → IsValue v → bits_value (k % 2 ^ 63) ≡ wrapped (x +ℤ v)
unfolding wrapped
added x v m n k a b is f g =
    let low = bits_lt x in let high = bits_lt v in
    let same : k % 2 ^ 63 ≡ (value_bits x + value_bits v) % 2 ^ 63 = omega arith in
    ap bits_value (same ∙ sum_bits x v f g)

pub returns-clause-made : goal.returns-clause-made
unfolding after reply_of refusal IsAllowed
returns-clause-made c =
    let xs = c.self.inside.refs.items in
    let x = c.index-old.result.now in
    let sound = c.self.invariant.sound in
    let is : x ≡ get_or xs c.args.number x = c.index-old.ensures ∙ ap (λ j. get_or xs j x) c.from-place.ensures in
    let within : c.args.number < length xs =
    rw sound.refs (subst (λ (k : Rattle.cell_registry.specs.Plain.PlainView). c.args.number < k.limits.refs) (sym c.self.view_is)
    c.requires.may.allowed.0) in
    let old : x ≡ get_or xs c.args.number (pos 0) = is ∙ get_or_default xs c.args.number x (pos 0) within in
    let first = c.value_word.ensures in
    let second = c.value_word-2.ensures in
    let sum : c.word_value.result ≡ wrapped (get_or xs c.args.number (pos 0) +ℤ c.args.value) = c.word_value.ensures.value
    ∙ added x c.args.value c.value_word.result c.value_word-2.result _ first.bits second.bits refl (from_bits _ _ first.bits first.inverse)
    (from_bits _ _ second.bits second.inverse)
    ∙ ap (λ z. wrapped (z +ℤ c.args.value)) old in
    rw (← c.self.view_is) record { room = refl; reply = ap Value old; left = rw (c.from-place.ensures, sum) refl }
