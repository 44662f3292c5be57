use Rattle.claim_words.proofs.HeadLemmas.{heads_more, heads_none, ref_found}
use Rattle.claim_words.proofs.heads.head_number.Goals as goal

pub loop-init : goal.loop-init
loop-init c = heads_none c.args.text.now

pub loop-preserved : goal.loop-preserved
loop-preserved c =
    heads_more c.args.text.now c.loop.rest.now c.in_ok-head.head.rest.now _ c.loop.number c.in_ok-next.next c.loop.invariant c.in_ok-head.ensures
    c.in_ok-next.ensures

pub returns-then-is_named : goal.returns-then-is_named
returns-then-is_named c =
    ref_found c.args.text.now c.loop.rest.now c.in_ok-head.head.rest.now c.args.name.now _ c.loop.number c.loop.invariant c.in_ok-head.ensures
    (c.is_named.ensures c.if-is_named.true)
