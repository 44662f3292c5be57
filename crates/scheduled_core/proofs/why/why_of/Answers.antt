use Rattle.std.proofs.Common.{◌∙◌, sym, ap, arith, subst}
use Rattle.fiber_frames.specs.Naming.{AskNamed}
use Rattle.scheduled_core.{specs.{Core.wish_of, Fitting.given_by}, proofs.Settling.{at_rest, waits_join, waits_read, word_named}}
use Rattle.scheduled_core.proofs.why.why_of.Goals as goal

pub has_ended-requires : goal.has_ended-requires
has_ended-requires c =
    let most = c.limits.ensures.lawful.sound.next_fiber in
    let named = word_named (given_by c.args.registry.now.state) c.args.config.now c.requires.names in
    let low = subst (AskNamed (given_by c.args.registry.now.state) c.args.config.now.number) (sym c.word_ask.ensures ∙ c.in-Join.is) named in
    omega arith

pub is_empty-requires : goal.is_empty-requires
is_empty-requires c =
    let most = c.limits.ensures.lawful.sound.next_deferred in
    let named = word_named (given_by c.args.registry.now.state) c.args.config.now c.requires.names in
    let low = subst (AskNamed (given_by c.args.registry.now.state) c.args.config.now.number) (sym c.word_ask.ensures ∙ c.in-Read.is) named in
    omega arith

pub returns-else-has_ended : goal.returns-else-has_ended
returns-else-has_ended c =
    let s = c.args.registry.now.state in
    let g = c.args.config.now in
    let asks = sym c.in-Join.is ∙ c.word_ask.ensures in (
      at_rest s g.number g c.requires (c.is_unasked.ensures c.if-not-is_unasked.false)
          (waits_join s g.number g c.in-Join.fiber asks (sym c.has_ended.ensures.ended ∙ c.if-has_ended.false)),
      ap wish_of (sym asks),
    )

pub returns-then-is_empty : goal.returns-then-is_empty
returns-then-is_empty c =
    let s = c.args.registry.now.state in
    let g = c.args.config.now in
    let asks = sym c.in-Read.is ∙ c.word_ask.ensures in (
      at_rest s g.number g c.requires (c.is_unasked.ensures c.if-not-is_unasked.false)
          (waits_read s g.number g c.in-Read.number asks (sym c.is_empty.ensures.empty ∙ c.if-is_empty.true)),
      ap wish_of (sym asks),
    )
