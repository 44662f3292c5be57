use Rattle.claim_words.proofs.NumberLemmas.{numbers_next}
use Rattle.claim_words.proofs.numbering.numbers_of.Goals as goal

pub loop-name-preserved : goal.loop-name-preserved
loop-name-preserved c =
    numbers_next c.args.text.now c.args.names.now c.loop-name.name-index _ c.loop-name.numbers.items _ c.in-Ok.number c.loop-name-test.true
    c.in_ok-push_number-in-Ok.ensures c.loop-name.invariant c.in-Ok.ensures
