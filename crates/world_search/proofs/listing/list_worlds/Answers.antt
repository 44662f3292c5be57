use Rattle.std.{proofs.{Common.{◌≡◌, false, subst, arith}, lemmas.Option.slice_get_within}, specs.{Prelude.{Some, Ok}, List.slice_get}}
use mathlib.Core.Logic.{dite}
use native.Mathlib.Decide.{ℕ_discrete}
use Rattle.world_search.proofs.{Answering.answered_more, Filing.none_filed}
use Rattle.world_search.proofs.listing.list_worlds.Goals as goal

pub loop-index-init : goal.loop-index-init
loop-index-init g c = record {
  listed = c.requires.listed;
  once = λ h. h;
  faultless = λ h. h;
  some = let many = c.in_ok-told.ensures.many in omega arith;
  filed = none_filed g.W.Worlds.report_digest g.W.Worlds.report (g.W.Worlds.worlds c.args.worlds.now) c.args.answers.now.items
      c.in_ok-told.told.buckets.items c.requires.none c.in_ok-told.ensures.none;
  told = λ i w low. absurd (omega arith);
}

pub loop-index-preserved : goal.loop-index-preserved
loop-index-preserved g c =
    let known = c.loop-index.invariant in
    let told = c.in_ok-list_world.ensures in
    record {
      listed = told.listed;
      once = λ h. told.once (known.once h);
      faultless = λ h. told.faultless (known.faultless h);
      some = told.some;
      filed = told.filed;
      told = λ i w low flag at. dite (ℕ_discrete i c.loop-index.index)
          (λ is. told.told w (subst (λ n. slice_get c.args.graph.now.unsettled.items n ≡ Some false) is flag)
          (subst (λ n. slice_get (g.W.Worlds.worlds c.args.worlds.now) n ≡ Some w) is at))
          (λ isnt. answered_more g.W.Worlds.step g.W.Worlds.report (g.W.Worlds.worlds c.args.worlds.now) (g.W.Worlds.faults c.args.worlds.now)
          c.loop-index.answers.items c.list_world.new.answers.items (Ok w) told.more (known.told i w (omega arith) flag at));
    }

pub returns-clause-told : goal.returns-clause-told
returns-clause-told g c = λ i w flag at.
    let low = slice_get_within c.args.graph.now.unsettled.items i false flag in
    let flags = c.requires.flags in
    c.loop-index.invariant.told i w (omega arith) flag at
