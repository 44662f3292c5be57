use Rattle.std.{proofs.{Common.{◌≡◌, ◌≢◌, ℕ, List, subst, arith, Ok}, lemmas.{Grind.common_steps, Option.gets}}, specs.{Prelude.Some, List.slice_get}}
use mathlib.Core.Logic.{◌⊎◌}
use Rattle.world_search.specs.{Systems.run, Lists.IsIn}
use Rattle.fair_ends.{specs.{declared.table.Edge.Edge, Private.Tables.{IsStill, LandsOn, fault}}, proofs.Landed.{fair_at, lands_at, world_at}}
use Rattle.fair_ends.proofs.walking.fair_cycle.Goals as goal

pub returns : goal.returns
returns g c = λ first at.
    let entry = g.W.Resting.entry in
    let Free = g.W.Resting.free in
    let step = g.W.Worlds.step in
    let most = g.W.Worlds.most_born in
    let ws = g.W.Worlds.worlds c.args.worlds.now in
    let stem = c.in_ok-stem.stem in
    let cycle = c.in_ok-cycle.cycle in
    let row = c.index-rows-begins.result in
    let isnt : stem.end ≢ fault = (λ same. absurd (omega arith)) in
    let here = world_at entry Free step most ws stem.end (run entry (Ok first) stem.entries.items) (c.in_ok-stem.ensures first at) isnt in
    let back : cycle.end ≡ stem.end = omega arith in
    let there : slice_get c.args.rows.now stem.end ≡ Some row = grind (arith, common_steps, gets) in
    record {
      world = here.0;
      comes = here.2;
      unrested = c.in_ok-can_go_on.ensures c.if-not-branch.false here.0 here.1;
      returns = lands_at entry Free step most ws stem.end (run entry (Ok here.0) cycle.entries.items) here.0
          (subst (λ k. LandsOn ws k (run entry (Ok here.0) cycle.entries.items)) back (c.in_ok-cycle.ensures here.0 here.1)) isnt here.1;
      fair = fair_at entry Free step most ws row stem.end cycle.entries.items here.0 (c.requires.table.each stem.end row here.0 there here.1) here.1 isnt
          (subst (λ (l : List ℕ). (f : ℕ) (e : Edge) → slice_get row.edges.items f ≡ Some e → IsIn f l ⊎ IsStill stem.end f e)
          c.as_slice-else-cycle-begins.ensures.value (c.has_all.ensures c.if-not-has_all.false));
    }
