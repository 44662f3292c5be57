use Rattle.std.proofs.Common.{length, sym, subst, arith}
use Rattle.world_search.{specs.Private.{Shapes.{Shape, shape}, Graphs.{Fits, ComesTo, IsSnug}}, proofs.{Lists.more_long, Meeting.{kept_fits, kept_grows}}}
use Rattle.world_search.proofs.{Meeting.{low_next, edge_fits, edge_stays}, Snug.{kept_snug, lost_snug, edge_snug}}
use Rattle.world_search.specs.declared.expanding.Came.TheVariants as came
use Rattle.world_search.proofs.expanding.meet.Goals as goal

pub returns-then-not-branch-clause-fits : goal.returns-then-not-branch-clause-fits
returns-then-not-branch-clause-fits g c =
    kept_fits g.W.Worlds.step g.W.Worlds.report g.W.Worlds.most_born c.args.limits.entries (g.W.Worlds.worlds c.args.worlds.now)
    (g.W.Worlds.faults c.args.worlds.now)
    (shape c.args.graph.now) (shape c.keep.new.graph) c.args.node c.args.to c.requires.fits c.requires.low c.requires.lands c.requires.how
    c.in_ok-keep.ensures.keeps

pub same_report-requires-clause-other : goal.same_report-requires-clause-other
same_report-requires-clause-other g c =
    low_next g.W.Worlds.step g.W.Worlds.report g.W.Worlds.most_born c.args.limits.entries (g.W.Worlds.worlds c.args.worlds.now)
    (g.W.Worlds.faults c.args.worlds.now)
    (shape c.args.graph.now) (shape c.keep.new.graph) c.args.node c.args.to c.requires.fits c.requires.low c.requires.lands

pub returns-then-same_report-clause-fits : goal.returns-then-same_report-clause-fits
returns-then-same_report-clause-fits g c =
    let ws = g.W.Worlds.worlds c.args.worlds.now in
    let es = g.W.Worlds.faults c.args.worlds.now in
    let keeps = c.in_ok-keep.ensures.keeps in
    let kept = kept_fits g.W.Worlds.step g.W.Worlds.report g.W.Worlds.most_born c.args.limits.entries ws es
    (shape c.args.graph.now) (shape c.keep.new.graph) c.args.node c.args.to c.requires.fits c.requires.low c.requires.lands c.requires.how keeps in
    let grows = kept_grows g.W.Worlds.step g.W.Worlds.report g.W.Worlds.most_born c.args.limits.entries ws es
    (shape c.args.graph.now) (shape c.keep.new.graph) c.args.node c.args.to c.requires.fits c.requires.low c.requires.lands keeps in
    let long = more_long c.args.graph.now.nodes.items c.keep.new.graph.nodes.items grows.nodes in
    let near = c.in_ok-keep.ensures.kept c.if-not-branch.false in
    subst (Fits g.W.Worlds.step g.W.Worlds.report g.W.Worlds.most_born c.args.limits.entries ws es) (sym c.in_ok-add_edge.ensures)
    (edge_fits g.W.Worlds.step g.W.Worlds.report g.W.Worlds.most_born c.args.limits.entries ws es (shape c.keep.new.graph) c.args.node c.args.to kept
    (omega arith) (omega arith) c.requires.lands)

pub returns-else-same_report-clause-fits : goal.returns-else-same_report-clause-fits
returns-else-same_report-clause-fits g c =
    let ws = g.W.Worlds.worlds c.args.worlds.now in
    let es = g.W.Worlds.faults c.args.worlds.now in
    let keeps = c.in_ok-keep.ensures.keeps in
    let kept = kept_fits g.W.Worlds.step g.W.Worlds.report g.W.Worlds.most_born c.args.limits.entries ws es
    (shape c.args.graph.now) (shape c.keep.new.graph) c.args.node c.args.to c.requires.fits c.requires.low c.requires.lands c.requires.how keeps in
    let grows = kept_grows g.W.Worlds.step g.W.Worlds.report g.W.Worlds.most_born c.args.limits.entries ws es
    (shape c.args.graph.now) (shape c.keep.new.graph) c.args.node c.args.to c.requires.fits c.requires.low c.requires.lands keeps in
    let long = more_long c.args.graph.now.nodes.items c.keep.new.graph.nodes.items grows.nodes in
    let near = c.in_ok-keep.ensures.kept c.if-not-branch.false in
    subst (Fits g.W.Worlds.step g.W.Worlds.report g.W.Worlds.most_born c.args.limits.entries ws es) (sym c.in_ok-add_edge.ensures)
    (edge_fits g.W.Worlds.step g.W.Worlds.report g.W.Worlds.most_born c.args.limits.entries ws es (shape c.keep.new.graph) c.args.node c.args.to kept
    (omega arith) (omega arith) c.requires.lands)

pub returns-then-same_report-clause-came : goal.returns-then-same_report-clause-came
returns-then-same_report-clause-came g c = λ w at.
    let ws = g.W.Worlds.worlds c.args.worlds.now in
    let es = g.W.Worlds.faults c.args.worlds.now in
    let keeps = c.in_ok-keep.ensures.keeps in
    let kept = kept_fits g.W.Worlds.step g.W.Worlds.report g.W.Worlds.most_born c.args.limits.entries ws es
    (shape c.args.graph.now) (shape c.keep.new.graph) c.args.node c.args.to c.requires.fits c.requires.low c.requires.lands c.requires.how keeps in
    let grows = kept_grows g.W.Worlds.step g.W.Worlds.report g.W.Worlds.most_born c.args.limits.entries ws es
    (shape c.args.graph.now) (shape c.keep.new.graph) c.args.node c.args.to c.requires.fits c.requires.low c.requires.lands keeps in
    let long = more_long c.args.graph.now.nodes.items c.keep.new.graph.nodes.items grows.nodes in
    let near = c.in_ok-keep.ensures.kept c.if-not-branch.false in
    subst (λ (s : Shape). ComesTo g.W.Worlds.step g.W.Worlds.report g.W.Worlds.most_born c.args.limits.entries ws es s c.args.node.from w came.Stays
    (g.W.Worlds.step w c.args.node.fiber)) (sym c.in_ok-add_edge.ensures)
    (edge_stays g.W.Worlds.step g.W.Worlds.report g.W.Worlds.most_born c.args.limits.entries ws es (shape c.keep.new.graph) c.args.node c.args.to
    kept (omega arith) (omega arith) c.requires.lands
    (c.same_report.ensures.yes c.if-same_report.true) w at)

pub returns-then-not-branch-clause-snug : goal.returns-then-not-branch-clause-snug
returns-then-not-branch-clause-snug g c = λ near.
    let ws = g.W.Worlds.worlds c.args.worlds.now in
    let low = low_next g.W.Worlds.step g.W.Worlds.report g.W.Worlds.most_born c.args.limits.entries ws
    (g.W.Worlds.faults c.args.worlds.now) (shape c.args.graph.now) (shape c.keep.new.graph) c.args.node c.args.to
    c.requires.fits c.requires.low c.requires.lands in
    (lost_snug g.W.Worlds.most_born c.args.limits.entries (shape c.args.graph.now) (shape c.keep.new.graph) c.args.node
    c.args.to (length ws) c.args.limits.worlds c.requires.how c.in_ok-keep.ensures.keeps low near
    (c.in_ok-keep.ensures.refused c.if-not-branch.true)).0

pub returns-then-not-branch-clause-lost : goal.returns-then-not-branch-clause-lost
returns-then-not-branch-clause-lost g c = λ it near.
    let ws = g.W.Worlds.worlds c.args.worlds.now in
    let low = low_next g.W.Worlds.step g.W.Worlds.report g.W.Worlds.most_born c.args.limits.entries ws
    (g.W.Worlds.faults c.args.worlds.now) (shape c.args.graph.now) (shape c.keep.new.graph) c.args.node c.args.to
    c.requires.fits c.requires.low c.requires.lands in
    (lost_snug g.W.Worlds.most_born c.args.limits.entries (shape c.args.graph.now) (shape c.keep.new.graph) c.args.node
    c.args.to (length ws) c.args.limits.worlds c.requires.how c.in_ok-keep.ensures.keeps low near
    (c.in_ok-keep.ensures.refused c.if-not-branch.true)).1

pub returns-then-same_report-clause-snug : goal.returns-then-same_report-clause-snug
returns-then-same_report-clause-snug g c = λ near.
    let ws = g.W.Worlds.worlds c.args.worlds.now in
    let low = low_next g.W.Worlds.step g.W.Worlds.report g.W.Worlds.most_born c.args.limits.entries ws
    (g.W.Worlds.faults c.args.worlds.now) (shape c.args.graph.now) (shape c.keep.new.graph) c.args.node c.args.to
    c.requires.fits c.requires.low c.requires.lands in
    subst (IsSnug (length ws)) (sym c.in_ok-add_edge.ensures)
    (edge_snug (shape c.keep.new.graph) (record { from = c.args.node.from; to = c.args.to }) (length ws)
    (kept_snug g.W.Worlds.most_born c.args.limits.entries (shape c.args.graph.now) (shape c.keep.new.graph) c.args.node
    c.args.to (length ws) c.args.limits.worlds c.requires.how c.in_ok-keep.ensures.keeps low near
    (c.in_ok-keep.ensures.kept c.if-not-branch.false)))

pub returns-else-same_report-clause-snug : goal.returns-else-same_report-clause-snug
returns-else-same_report-clause-snug g c = λ near.
    let ws = g.W.Worlds.worlds c.args.worlds.now in
    let low = low_next g.W.Worlds.step g.W.Worlds.report g.W.Worlds.most_born c.args.limits.entries ws
    (g.W.Worlds.faults c.args.worlds.now) (shape c.args.graph.now) (shape c.keep.new.graph) c.args.node c.args.to
    c.requires.fits c.requires.low c.requires.lands in
    subst (IsSnug (length ws)) (sym c.in_ok-add_edge.ensures)
    (edge_snug (shape c.keep.new.graph) (record { from = c.args.node.from; to = c.args.to }) (length ws)
    (kept_snug g.W.Worlds.most_born c.args.limits.entries (shape c.args.graph.now) (shape c.keep.new.graph) c.args.node
    c.args.to (length ws) c.args.limits.worlds c.requires.how c.in_ok-keep.ensures.keeps low near
    (c.in_ok-keep.ensures.kept c.if-not-branch.false)))
