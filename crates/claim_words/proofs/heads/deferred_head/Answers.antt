use Rattle.claim_words.proofs.HeadLemmas.{deferred_next}
use Rattle.claim_words.proofs.heads.deferred_head.Goals as goal

pub returns : goal.returns
returns c =
    deferred_next c.args.text.now c.in_ok-inside.inside.now c.in_ok-name.name.word.now c.in_ok-name.name.rest.now c.in_ok-inside.ensures
    c.in_ok-name.ensures.text c.in_ok-name.ensures.plain
