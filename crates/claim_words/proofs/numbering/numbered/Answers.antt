use Rattle.std.proofs.Common.{◌∙◌, arith, drop, sym}
use Rattle.claim_words.specs.Private.Steps.{is_named}
use Rattle.claim_words.proofs.NumberLemmas.{left_named, left_other, one_word}
use Rattle.claim_words.proofs.numbering.numbered.Goals as goal
use Rattle.claim_words.proofs.numbering.numbered.Goals.{then-is_named, else-is_named}

pub loop-word-preserved : goal.loop-word-preserved
loop-word-preserved c =
    let ws = c.args.words.now in
    let ns = c.args.numbers.now in
    elim c.if-is_named.branch [
      | then-is_named w ↦ record {
        low = omega arith;
        all_are = one_word c.loop-word.all.items _ _ ws c.loop-word.word-index c.word-item.result c.claim_word.result (drop c.loop-word.next ns) _
            (omega arith) c.word-item.is c.claim_word.ensures c.in_ok-push.ensures.items
            (left_named (is_named c.word-item.result) c.loop-word.next c.if-is_named.next ns (sym c.is_named.ensures ∙ w.if-is_named.true) w.next-is)
            c.loop-word.invariant.all_are;
      }
      | else-is_named w ↦ record {
        low = omega arith;
        all_are = one_word c.loop-word.all.items _ _ ws c.loop-word.word-index c.word-item.result c.claim_word.result (drop c.loop-word.next ns) _
            (omega arith) c.word-item.is c.claim_word.ensures c.in_ok-push.ensures.items
            (left_other (is_named c.word-item.result) c.loop-word.next c.if-is_named.next ns (sym c.is_named.ensures ∙ w.if-is_named.false) w.next-is)
            c.loop-word.invariant.all_are;
      }
    ]
