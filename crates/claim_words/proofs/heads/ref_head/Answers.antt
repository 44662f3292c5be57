use Rattle.claim_words.proofs.HeadLemmas.{ref_next}
use Rattle.claim_words.proofs.heads.ref_head.Goals as goal

pub returns : goal.returns
returns c =
    ref_next c.args.text.now c.in_ok-inside.inside.now c.in_ok-name.name.word.now c.in_ok-name.name.rest.now c.in_ok-value.value.word.now
    c.in_ok-value.value.rest.now c.in_ok-inside.ensures c.in_ok-name.ensures.text c.in_ok-name.ensures.plain c.in_ok-value.ensures.text
    c.in_ok-value.ensures.plain
