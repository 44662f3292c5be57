use Rattle.std.{proofs.{Common.{◌≡◌, ◌+◌, refl, subst, arith, rules}, lemmas.{Grind.common_steps, Option.gets}}, specs.{Prelude.Some, List.slice_get}}
use Rattle.world_search.specs.{declared.{graphs.Node.Node, landings.{Entered.Entered, Landing.Landing}}, Landings.{LandsAt, EntersAt}, Private.Shapes.shape}
use Rattle.world_search.{specs.Private.Graphs.CanEnter, proofs.{Lists.{more_back, more_get, ok_then}, Fitting.fits_store, Meeting.{noted_fits, noted_leaves}}}
use Rattle.world_search.proofs.expanding.enter.Goals as goal

pub meet-requires-clause-fits : goal.meet-requires-clause-fits
meet-requires-clause-fits g c =
    let told = c.in_ok-enter.ensures in
    fits_store g.W.Worlds.step g.W.Worlds.report g.W.Worlds.most_born c.args.limits.entries (g.W.Worlds.worlds c.args.worlds.now)
    (g.W.Worlds.faults c.args.worlds.now) (shape c.args.graph.now) c.requires.fits
    (g.W.Worlds.worlds c.enter.new.self) (g.W.Worlds.faults c.enter.new.self) told.worlds told.faults

pub returns-in-Full-clause-fits : goal.returns-in-Full-clause-fits
returns-in-Full-clause-fits g c =
    let told = c.in_ok-enter.ensures in
    fits_store g.W.Worlds.step g.W.Worlds.report g.W.Worlds.most_born c.args.limits.entries (g.W.Worlds.worlds c.args.worlds.now)
    (g.W.Worlds.faults c.args.worlds.now) (shape c.args.graph.now) c.requires.fits
    (g.W.Worlds.worlds c.enter.new.self) (g.W.Worlds.faults c.enter.new.self) told.worlds told.faults

pub meet-requires-clause-how : goal.meet-requires-clause-how
meet-requires-clause-how g c =
    let at : slice_get c.args.graph.now.nodes.items c.args.index ≡ Some c.index.result.now = grind (arith, common_steps, gets) in
    let deep = c.requires.deep c.index.result.now at in
    record { parent = c.index.result.now; above = at; deeper = refl; short = omega arith; small = c.requires.small }

pub meet-requires-clause-lands : goal.meet-requires-clause-lands
meet-requires-clause-lands g c = λ w at.
    let told = c.in_ok-enter.ensures in
    let known = c.requires.fits.known in
    let before = more_back (g.W.Worlds.worlds c.args.worlds.now) (g.W.Worlds.worlds c.enter.new.self) c.args.index w told.worlds (omega arith) at in
    let lands = subst (λ (it : Entered). EntersAt (g.W.Worlds.worlds c.enter.new.self) (g.W.Worlds.faults c.enter.new.self) it
    (g.W.Worlds.step w c.args.fiber)) c.in-At-World.is (told.lands w before) in
    subst (λ (l : Landing). LandsAt (g.W.Worlds.worlds c.enter.new.self) (g.W.Worlds.faults c.enter.new.self) l (g.W.Worlds.step w c.args.fiber))
    c.in-At-World.field-0-is lands

pub returns-in_ok-note-in-At-Fault : goal.returns-in_ok-note-in-At-Fault
returns-in_ok-note-in-At-Fault g c =
    let told = c.in_ok-enter.ensures in
    let ws = g.W.Worlds.worlds c.enter.new.self in
    let es = g.W.Worlds.faults c.enter.new.self in
    let fits = fits_store g.W.Worlds.step g.W.Worlds.report g.W.Worlds.most_born c.args.limits.entries (g.W.Worlds.worlds c.args.worlds.now)
    (g.W.Worlds.faults c.args.worlds.now) (shape c.args.graph.now) c.requires.fits
    ws es told.worlds told.faults in
    let at : slice_get c.args.graph.now.nodes.items c.args.index ≡ Some c.index.result.now = grind (arith, common_steps, gets) in
    let deep = c.requires.deep c.index.result.now at in
    let node : Node = record { from = c.args.index; depth = c.index.result.now.depth + 1; fiber = c.args.fiber } in
    let how : CanEnter g.W.Worlds.most_born c.args.limits.entries c.args.graph.now.nodes.items node =
    record { parent = c.index.result.now; above = at; deeper = refl; short = omega arith; small = c.requires.small } in
    let lands = (λ (w : _) (here : slice_get ws c.args.index ≡ Some w).
    let known = c.requires.fits.known in
    let before = more_back (g.W.Worlds.worlds c.args.worlds.now) ws c.args.index w told.worlds (omega arith) here in
    let lands = subst (λ (it : Entered). EntersAt ws es it (g.W.Worlds.step w c.args.fiber)) c.in-At-Fault.is (told.lands w before) in
    subst (λ (l : Landing). LandsAt ws es l (g.W.Worlds.step w c.args.fiber)) c.in-At-Fault.field-0-is lands) in
    record {
      grows = search rules;
      fits = noted_fits g.W.Worlds.step g.W.Worlds.report g.W.Worlds.most_born c.args.limits.entries ws es (shape c.args.graph.now)
          (shape c.note.new.graph) node c.in-At-Fault.fault fits c.requires.low how lands c.in_ok-note-in-At-Fault.ensures;
      flags = search rules;
      came = λ w there. noted_leaves g.W.Worlds.step g.W.Worlds.report g.W.Worlds.most_born c.args.limits.entries ws es (shape c.args.graph.now)
          (shape c.note.new.graph) node c.in-At-Fault.fault fits c.requires.low how lands c.in_ok-note-in-At-Fault.ensures
          w (more_get (g.W.Worlds.worlds c.args.worlds.now) ws c.args.index w told.worlds there);
      room = search rules;
      snug = search rules;
      lost = search rules;
      edges = search rules;
    }

pub returns-in-At-World-clause-came : goal.returns-in-At-World-clause-came
returns-in-At-World-clause-came g c =
    let ws = g.W.Worlds.worlds c.enter.new.self in
    ok_then _ _ (λ it h w at. h w (more_get (g.W.Worlds.worlds c.args.worlds.now) ws c.args.index w
    c.in_ok-enter.ensures.worlds at)) c.meet.result c.meet.ensures.came
