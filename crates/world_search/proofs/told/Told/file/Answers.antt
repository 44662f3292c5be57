use Rattle.std.{proofs.{Common.{◌≡◌, arith}, lemmas.{Grind.common_steps, Option.gets}}, specs.{Prelude.Some, List.slice_get}}
use Rattle.world_search.proofs.Filing.{set_files}
use Rattle.world_search.proofs.told.Told.file.Goals as goal

pub returns : goal.returns
returns c =
    let there : slice_get c.args.self.now.buckets.items c.args.bucket ≡ Some c.index_mut.result.now = grind (arith, common_steps, gets) in
    set_files c.args.self.now.buckets.items c.args.bucket c.args.world c.index_mut.result.now c.push.new.self there c.in_ok-push.ensures.items
