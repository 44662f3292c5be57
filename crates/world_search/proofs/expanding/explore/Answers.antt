use Rattle.std.proofs.Common.{length, sym, ◌∙◌, arith, inl}
use Rattle.world_search.{specs.Private.Shapes.shape, proofs.{Lists.{more_long, mul_next}, Fitting.grows_grows, Entries.done_next, Snug.stopped_on}}
use Rattle.world_search.proofs.expanding.explore.Goals.{then-not-branch, else-not-branch}
use Rattle.world_search.proofs.expanding.explore.Goals as goal

pub loop-index-preserved : goal.loop-index-preserved
loop-index-preserved g c =
    let known = c.loop-index.invariant in
    let told = c.in_ok-expand.ensures in
    let long = more_long c.loop-index.graph.nodes.items c.expand.new.graph.nodes.items told.grows.nodes in
    record {
      grows = grows_grows (g.W.Worlds.worlds c.args.worlds.now) (g.W.Worlds.worlds c.loop-index.worlds) (g.W.Worlds.worlds c.expand.new.worlds)
          (g.W.Worlds.faults c.args.worlds.now) (g.W.Worlds.faults c.loop-index.worlds) (g.W.Worlds.faults c.expand.new.worlds)
          (shape c.args.graph.now) (shape c.loop-index.graph) (shape c.expand.new.graph) known.grows told.grows;
      fits = told.fits;
      done = λ whole. elim c.if-not-branch.branch [
        | then-not-branch w ↦ absurd (cc (w.whole-is, whole))
        | else-not-branch w ↦
            done_next g.W.Worlds.step g.W.Worlds.report g.W.Worlds.most_born c.args.limits.entries (g.W.Worlds.worlds c.loop-index.worlds)
            (g.W.Worlds.worlds c.expand.new.worlds)
            (g.W.Worlds.faults c.loop-index.worlds) (g.W.Worlds.faults c.expand.new.worlds) (shape c.loop-index.graph) (shape c.expand.new.graph)
            c.loop-index.index
            told.grows known.fits.known known.fits.unsettled (omega arith) told.flags (known.done (sym w.whole-is ∙ whole)) (told.done w.if-not-branch.false)
      ];
      low = omega arith;
      room = let a = known.room in let b = told.room in omega arith;
      snug = λ h. told.snug (known.snug h);
      stopped = λ lost h. elim c.if-not-branch.branch [
        | then-not-branch w ↦ told.stopped w.if-not-branch.true (known.snug h)
        | else-not-branch w ↦
            let more = more_long (g.W.Worlds.worlds c.loop-index.worlds) (g.W.Worlds.worlds c.expand.new.worlds)
            told.grows.worlds in
            stopped_on c.args.limits.worlds c.args.limits.entries (length (g.W.Worlds.worlds c.loop-index.worlds))
            (length (g.W.Worlds.worlds c.expand.new.worlds)) more (known.stopped (sym w.whole-is ∙ lost) h)
      ];
      edges = let a = known.edges in let b = told.edges in let m = mul_next g.W.Worlds.most_born c.loop-index.index in omega arith;
      watches = c.lets_go_on.ensures.same ∙ known.watches;
    }

pub returns-then-whole-clause-snug : goal.returns-then-whole-clause-snug
returns-then-whole-clause-snug g c = c.loop-index.invariant.snug

pub returns-else-whole-clause-snug : goal.returns-else-whole-clause-snug
returns-else-whole-clause-snug g c = c.loop-index.invariant.snug

pub returns-else-whole-clause-stopped : goal.returns-else-whole-clause-stopped
returns-else-whole-clause-stopped g c = λ e h. inl (c.loop-index.invariant.stopped c.if-whole.false h)
