use Rattle.std.proofs.{Common.{◌≡◌, ℕ, ◌+◌, ◌<◌, ◌≤◌, length, sym, ◌∙◌, subst, arith, inl, inr}, lemmas.{Grind.common_steps, Option.{gets, same_Some}}}
use Rattle.std.specs.{Prelude.Some, List.slice_get}
use Rattle.world_search.specs.{declared.{expanding.Came.Came, graphs.Node.Node}, Private.{Shapes.{Shape, shape}, Graphs.{Fits, CameSo, IsDone, IsSnug}}}
use Rattle.world_search.{specs.Private.Graphs.SameFlags, proofs.{Lists.{more_same, more_more, more_back, more_long}, Fitting.{grows_same, grows_grows}}}
use Rattle.world_search.proofs.{Fitting.fits_quiet, Entries.{came_next, quiet_all, done_quiet, done_leaves, same_flags, same_flags_set}, Snug.worse_lost}
use Rattle.world_search.proofs.Snug.{quiet_snug}
use Rattle.world_search.proofs.expanding.expand.Goals as goal

pub loop-fiber-init : goal.loop-fiber-init
loop-fiber-init g c =
    let at : slice_get c.args.graph.now.nodes.items c.args.index ≡ Some c.index.result.now = grind (arith, common_steps, gets) in
    record {
      grows = grows_same (g.W.Worlds.worlds c.args.worlds.now) (g.W.Worlds.faults c.args.worlds.now) (shape c.args.graph.now);
      fits = c.requires.fits;
      flags = more_same c.args.graph.now.unsettled.items;
      low = c.requires.low;
      deep = λ n there.
          let same : c.index.result.now ≡ n = same_Some c.index.result.now n (sym at ∙ there) in
          subst (λ (m : Node). m.depth < c.args.limits.entries) same (omega arith);
      came = λ w there f low. absurd (omega arith);
      room = omega arith;
      snug = λ h. h;
      lost = λ e h. absurd (cc);
      edges = omega arith;
    }

pub loop-fiber-preserved : goal.loop-fiber-preserved
loop-fiber-preserved g c =
    let known = c.loop-fiber.invariant in
    let told = c.in_ok-enter.ensures in
    let long = more_long c.loop-fiber.graph.nodes.items c.enter.new.graph.nodes.items told.grows.nodes in
    let kept = known.fits.known in
    record {
      grows = grows_grows (g.W.Worlds.worlds c.args.worlds.now) (g.W.Worlds.worlds c.loop-fiber.worlds) (g.W.Worlds.worlds c.enter.new.worlds)
          (g.W.Worlds.faults c.args.worlds.now) (g.W.Worlds.faults c.loop-fiber.worlds) (g.W.Worlds.faults c.enter.new.worlds)
          (shape c.args.graph.now) (shape c.loop-fiber.graph) (shape c.enter.new.graph) known.grows told.grows;
      fits = told.fits;
      flags = more_more c.args.graph.now.unsettled.items c.loop-fiber.graph.unsettled.items c.enter.new.graph.unsettled.items known.flags told.flags;
      low = omega arith;
      deep = λ n there. known.deep n (more_back c.loop-fiber.graph.nodes.items c.enter.new.graph.nodes.items c.args.index n told.grows.nodes known.low there);
      came = λ w there.
          let before = more_back (g.W.Worlds.worlds c.loop-fiber.worlds) (g.W.Worlds.worlds c.enter.new.worlds) c.args.index w told.grows.worlds
          (omega arith) there in
          subst (λ (x : Came). CameSo g.W.Worlds.step g.W.Worlds.report g.W.Worlds.most_born c.args.limits.entries
          (g.W.Worlds.worlds c.enter.new.worlds) (g.W.Worlds.faults c.enter.new.worlds) (shape c.enter.new.graph) c.args.index w x (c.loop-fiber.fiber + 1))
          (sym c.worse-came.ensures)
          (came_next g.W.Worlds.step g.W.Worlds.report g.W.Worlds.most_born c.args.limits.entries (g.W.Worlds.worlds c.loop-fiber.worlds)
          (g.W.Worlds.worlds c.enter.new.worlds)
          (g.W.Worlds.faults c.loop-fiber.worlds) (g.W.Worlds.faults c.enter.new.worlds) (shape c.loop-fiber.graph) (shape c.enter.new.graph)
          told.grows c.args.index w c.loop-fiber.fiber
          c.loop-fiber.came c.in_ok-enter.field-0 (known.came w before) (told.came w before));
      room = let a = known.room in let b = told.room in omega arith;
      snug = λ h. told.snug (known.snug h);
      lost = λ e h.
          let more = more_long (g.W.Worlds.worlds c.loop-fiber.worlds) (g.W.Worlds.worlds c.enter.new.worlds)
          told.grows.worlds in
          elim (worse_lost c.loop-fiber.came c.in_ok-enter.field-0 (sym c.worse-came.ensures ∙ e)) [
            | inl one ↦ let a = known.lost one h in omega arith
            | inr other ↦ told.lost other (known.snug h)
          ];
      edges = let a = known.edges in let b = told.edges in omega arith;
    }

pub returns-in-Stays-clause-fits : goal.returns-in-Stays-clause-fits
returns-in-Stays-clause-fits g c =
    let known = c.loop-fiber.invariant in
    let ws = g.W.Worlds.worlds c.loop-fiber.worlds in
    let es = g.W.Worlds.faults c.loop-fiber.worlds in
    let kept = c.requires.fits.known in
    let rests = (λ (w : _) (at : slice_get ws c.args.index ≡ Some w) (f : ℕ) (past : c.loop-fiber.fiber ≤ f).
    c.born-born.ensures.rests w (more_back (g.W.Worlds.worlds c.args.worlds.now) ws c.args.index w known.grows.worlds (omega arith) at) f (omega arith)) in
    let so = (λ (w : _) (at : slice_get ws c.args.index ≡ Some w).
    subst (λ (x : Came). CameSo g.W.Worlds.step g.W.Worlds.report g.W.Worlds.most_born c.args.limits.entries ws es (shape c.loop-fiber.graph)
    c.args.index w x c.loop-fiber.fiber) c.in-Stays.is (known.came w at)) in
    subst (Fits g.W.Worlds.step g.W.Worlds.report g.W.Worlds.most_born c.args.limits.entries ws es) (sym c.set_quiet.ensures)
    (fits_quiet g.W.Worlds.step g.W.Worlds.report g.W.Worlds.most_born c.args.limits.entries ws es (shape c.loop-fiber.graph) known.fits c.args.index
    (quiet_all g.W.Worlds.step g.W.Worlds.report g.W.Worlds.most_born c.args.limits.entries ws es (shape c.loop-fiber.graph) c.args.index
    c.loop-fiber.fiber rests so))

pub returns-in-Stays-clause-flags : goal.returns-in-Stays-clause-flags
returns-in-Stays-clause-flags g c =
    subst (λ (s : Shape). SameFlags c.args.index c.args.graph.now.unsettled.items s.unsettled) (sym c.set_quiet.ensures)
    (same_flags_set c.args.index c.args.graph.now.unsettled.items c.loop-fiber.graph.unsettled.items c.loop-fiber.invariant.flags)

pub returns-in-Stays-clause-done : goal.returns-in-Stays-clause-done
returns-in-Stays-clause-done g c = λ yes.
    let known = c.loop-fiber.invariant in
    let ws = g.W.Worlds.worlds c.loop-fiber.worlds in
    let es = g.W.Worlds.faults c.loop-fiber.worlds in
    let kept = c.requires.fits.known in
    let flags = known.fits.unsettled in
    let rests = (λ (w : _) (at : slice_get ws c.args.index ≡ Some w) (f : ℕ) (past : c.loop-fiber.fiber ≤ f).
    c.born-born.ensures.rests w (more_back (g.W.Worlds.worlds c.args.worlds.now) ws c.args.index w known.grows.worlds (omega arith) at) f (omega arith)) in
    let so = (λ (w : _) (at : slice_get ws c.args.index ≡ Some w).
    subst (λ (x : Came). CameSo g.W.Worlds.step g.W.Worlds.report g.W.Worlds.most_born c.args.limits.entries ws es (shape c.loop-fiber.graph)
    c.args.index w x c.loop-fiber.fiber) c.in-Stays.is (known.came w at)) in
    subst (λ (s : Shape). IsDone g.W.Worlds.step g.W.Worlds.report g.W.Worlds.most_born c.args.limits.entries ws es s c.args.index) (sym c.set_quiet.ensures)
    (done_quiet g.W.Worlds.step g.W.Worlds.report g.W.Worlds.most_born c.args.limits.entries ws es (shape c.loop-fiber.graph) c.args.index
    c.loop-fiber.fiber rests known.low (omega arith) so)

pub returns-in-Leaves-clause-flags : goal.returns-in-Leaves-clause-flags
returns-in-Leaves-clause-flags g c = same_flags c.args.index c.args.graph.now.unsettled.items c.loop-fiber.graph.unsettled.items c.loop-fiber.invariant.flags

pub returns-in-Lost-clause-flags : goal.returns-in-Lost-clause-flags
returns-in-Lost-clause-flags g c = same_flags c.args.index c.args.graph.now.unsettled.items c.loop-fiber.graph.unsettled.items c.loop-fiber.invariant.flags

pub returns-in-Leaves-clause-done : goal.returns-in-Leaves-clause-done
returns-in-Leaves-clause-done g c = λ yes.
    let known = c.loop-fiber.invariant in
    let ws = g.W.Worlds.worlds c.loop-fiber.worlds in
    let es = g.W.Worlds.faults c.loop-fiber.worlds in
    let kept = c.requires.fits.known in
    let rests = (λ (w : _) (at : slice_get ws c.args.index ≡ Some w) (f : ℕ) (past : c.loop-fiber.fiber ≤ f).
    c.born-born.ensures.rests w (more_back (g.W.Worlds.worlds c.args.worlds.now) ws c.args.index w known.grows.worlds (omega arith) at) f (omega arith)) in
    let so = (λ (w : _) (at : slice_get ws c.args.index ≡ Some w).
    subst (λ (x : Came). CameSo g.W.Worlds.step g.W.Worlds.report g.W.Worlds.most_born c.args.limits.entries ws es (shape c.loop-fiber.graph)
    c.args.index w x c.loop-fiber.fiber) c.in-Leaves.is (known.came w at)) in
    done_leaves g.W.Worlds.step g.W.Worlds.report g.W.Worlds.most_born c.args.limits.entries ws es (shape c.loop-fiber.graph) c.args.index
    c.loop-fiber.fiber rests known.low so

pub returns-in-Stays-clause-snug : goal.returns-in-Stays-clause-snug
returns-in-Stays-clause-snug g c = λ h.
    let many = length (g.W.Worlds.worlds c.loop-fiber.worlds) in
    subst (IsSnug many) (sym c.set_quiet.ensures)
    (quiet_snug (shape c.loop-fiber.graph) c.args.index many (c.loop-fiber.invariant.snug h))

pub returns-in-Leaves-clause-snug : goal.returns-in-Leaves-clause-snug
returns-in-Leaves-clause-snug g c = c.loop-fiber.invariant.snug

pub returns-in-Lost-clause-snug : goal.returns-in-Lost-clause-snug
returns-in-Lost-clause-snug g c = c.loop-fiber.invariant.snug

pub returns-in-Lost-clause-stopped : goal.returns-in-Lost-clause-stopped
returns-in-Lost-clause-stopped g c = λ e h. inl (c.loop-fiber.invariant.lost c.in-Lost.is h)
