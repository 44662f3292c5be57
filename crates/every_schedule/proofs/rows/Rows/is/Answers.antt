use Rattle.std.{proofs.Common.{◌≡◌, ◌<◌, length, sym, ap, ◌∙◌, arith}, specs.Prelude.Some}
use Rattle.world_search.proofs.Lists.{get_low}
use Rattle.every_schedule.proofs.Packed.{gone}
use Rattle.every_schedule.proofs.rows.Rows.is.Goals as goal

pub returns-then-known-registry : goal.returns-then-known-registry
returns-then-known-registry c = λ yes.
    let rows = c.args.self.now.rows in
    let len = c.len.ensures in
    let low : c.args.world < length rows = omega arith in
    let found = get_low rows c.args.world low in
    let same : c.args.registry ≡ found.0.registry = sym c.if-known-registry.true ∙ c.registry-known.ensures found.0 found.1 in
    let are : c.args.fibers.now ≡ found.0.fibers = sym (c.are_same.ensures yes) ∙ c.fibers.ensures found.0 found.1 in
    found.1 ∙ ap Some (gone c.args.registry c.args.fibers.now found.0 same are)
