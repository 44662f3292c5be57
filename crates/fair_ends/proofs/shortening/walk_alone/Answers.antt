use Rattle.std.{proofs.{Common.{get_or, refl, length, arith, ◌≡◌, ◌<◌, ◌≤◌, Some, Ok, subst}, lemmas.List.take_all}, specs.List.slice_get}
use Rattle.world_search.proofs.Lists.{more_more, more_same}
use Rattle.fair_ends.{specs.Private.Tables.LeadsToWorld, proofs.{Found.if_some, Landed.alone_next}}
use Rattle.fair_ends.proofs.shortening.walk_alone.Goals as goal

pub loop-fiber-init : goal.loop-fiber-init
loop-fiber-init g c = record {
  grows = more_same (g.W.Worlds.worlds c.args.worlds.now);
  low = c.requires;
  leads = λ first at. (first, at, refl);
}

pub loop-fiber-preserved : goal.loop-fiber-preserved
loop-fiber-preserved g c =
    let known = c.loop-fiber.invariant in
    let told = c.in_ok-next_alone.ensures in
    let vs = g.W.Worlds.worlds c.loop-fiber.worlds in
    let us = g.W.Worlds.worlds c.next_alone.new.worlds in
    let i = c.loop-fiber.fiber-index in
    record {
      grows = more_more (g.W.Worlds.worlds c.args.worlds.now) vs us known.grows told.grows;
      low = if_some (λ to. to < length us) c.in_ok-next_alone.field-0 c.in-Some.to c.in-Some.is told.low;
      leads = λ first at.
          alone_next g.W.Resting.entry g.W.Resting.free g.W.Worlds.step g.W.Worlds.most_born us vs us first c.args.entries.now i c.loop-fiber.at c.in-Some.to
          (get_or c.args.entries.now i 0) c.loop-fiber-test.true refl (known.leads first at)
          (if_some (λ to. (w : g.row.W-World.Denot) → slice_get vs c.loop-fiber.at ≡ Some w → (x : g.row.W-World.Denot) × (slice_get us to ≡ Some x) ×
          (g.W.Resting.entry w (get_or c.args.entries.now i 0) ≡ Ok x)) c.in_ok-next_alone.field-0 c.in-Some.to c.in-Some.is told.leads);
    }

pub returns-clause-leads : goal.returns-clause-leads
returns-clause-leads g c = λ first at.
    let past : length c.args.entries.now ≤ c.loop-fiber.fiber-index = omega arith in
    subst (λ l. LeadsToWorld g.W.Resting.entry (g.W.Worlds.worlds c.loop-fiber.worlds) first l c.loop-fiber.at)
    (take_all c.loop-fiber.fiber-index c.args.entries.now past) (c.loop-fiber.invariant.leads first at)
