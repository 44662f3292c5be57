use Rattle.std.proofs.{Common.{refl, arith, rules}, lemmas.Grind.common_steps}
use Rattle.world_search.proofs.{Claiming.{listed_next, looked_next}, Lists.got_none}
use Rattle.world_search.proofs.claims.list_met.Goals as goal

pub loop-number-init : goal.loop-number-init
loop-number-init g c = record {
  listed = λ k m at. absurd (got_none c.new-met.result.items k m c.new-met.ensures.items at);
  looked = λ i d low at. absurd (omega arith);
  keeps = λ h. h;
  watches = refl;
}

pub loop-number-preserved : goal.loop-number-preserved
loop-number-preserved g c =
    let meets = g.W.Claims.meets in
    let ws = g.W.Worlds.worlds c.args.worlds.now in
    let known = c.loop-number.invariant in
    let old = c.loop-number.met.items in
    let new = c.look_for.new.met.items in
    record {
      listed = listed_next meets ws c.args.nodes.now c.args.claims.now c.loop-number.number old new c.in_ok-look_for.ensures.adds known.listed;
      looked = looked_next meets ws c.args.nodes.now c.args.claims.now c.loop-number.number old new c.in_ok-look_for.ensures.adds known.looked;
      keeps = first_of (search rules, grind (arith, common_steps));
      watches = first_of (search rules, grind (arith, common_steps));
    }
