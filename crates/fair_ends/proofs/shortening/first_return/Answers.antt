use Rattle.std.{proofs.{Common.{get_or, refl, length, arith, ◌≡◌, ◌<◌, sym, ap, ◌∙◌, subst, Some, Ok}, lemmas.Option.same_Some}, specs.List.slice_get}
use Rattle.world_search.proofs.Lists.{more_get, more_more, more_same}
use Rattle.fair_ends.proofs.{Found.if_some, Landed.alone_next}
use Rattle.fair_ends.proofs.shortening.first_return.Goals as goal

pub loop-index-init : goal.loop-index-init
loop-index-init g c = record {
  grows = more_same (g.W.Worlds.worlds c.args.worlds.now);
  low = c.requires;
  leads = λ w at. (w, at, refl);
}

pub loop-index-preserved : goal.loop-index-preserved
loop-index-preserved g c =
    let known = c.loop-index.invariant in
    let told = c.in_ok-next_alone.ensures in
    let vs = g.W.Worlds.worlds c.loop-index.worlds in
    let us = g.W.Worlds.worlds c.next_alone.new.worlds in
    let i = c.loop-index.index in
    record {
      grows = more_more (g.W.Worlds.worlds c.args.worlds.now) vs us known.grows told.grows;
      low = if_some (λ to. to < length us) c.in_ok-next_alone.field-0 c.in-Some.to c.in-Some.is told.low;
      leads = λ w at.
          alone_next g.W.Resting.entry g.W.Resting.free g.W.Worlds.step g.W.Worlds.most_born us vs us w c.args.cycle.now i c.loop-index.at c.in-Some.to
          (get_or c.args.cycle.now i 0) c.loop-index-test.true refl (known.leads w at)
          (if_some (λ to. (v : g.row.W-World.Denot) → slice_get vs c.loop-index.at ≡ Some v → (x : g.row.W-World.Denot) × (slice_get us to ≡ Some x) ×
          (g.W.Resting.entry v (get_or c.args.cycle.now i 0) ≡ Ok x)) c.in_ok-next_alone.field-0 c.in-Some.to c.in-Some.is told.leads);
    }

pub returns-then-has_all_of-clause-returns : goal.returns-then-has_all_of-clause-returns
returns-then-has_all_of-clause-returns g c = λ w at whole.
    let known = c.loop-index.invariant in
    let told = c.in_ok-next_alone.ensures in
    let vs = g.W.Worlds.worlds c.loop-index.worlds in
    let us = g.W.Worlds.worlds c.next_alone.new.worlds in
    let i = c.loop-index.index in
    let led = alone_next g.W.Resting.entry g.W.Resting.free g.W.Worlds.step g.W.Worlds.most_born us vs us w c.args.cycle.now i c.loop-index.at c.in-Some.to
    (get_or c.args.cycle.now i 0) c.loop-index-test.true refl (known.leads w at)
    (if_some (λ to. (v : g.row.W-World.Denot) → slice_get vs c.loop-index.at ≡ Some v → (x : g.row.W-World.Denot) × (slice_get us to ≡ Some x) ×
    (g.W.Resting.entry v (get_or c.args.cycle.now i 0) ≡ Ok x)) c.in_ok-next_alone.field-0 c.in-Some.to c.in-Some.is told.leads) in
    let here : slice_get us c.args.begins ≡ Some w = more_get vs us c.args.begins w told.grows (more_get (g.W.Worlds.worlds c.args.worlds.now) vs c.args.begins w known.grows at) in
    let back : c.in-Some.to ≡ c.args.begins = omega arith in
    let there : slice_get us c.args.begins ≡ Some led.0 = subst (λ k. slice_get us k ≡ Some led.0) back led.1 in
    let same : led.0 ≡ w = same_Some led.0 w (sym there ∙ here) in
    led.2 ∙ ap Ok same
