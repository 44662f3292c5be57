use Rattle.std.proofs.{Common.{◌≡◌, ◌<◌, true, inr, length, slice_index_or, refl, subst, arith}, lemmas.{Grind.common_steps, Option.gets}}
use Rattle.std.{proofs.lemmas.Option.slice_get-get_or, specs.{Prelude.{IfSome, Some}, List.slice_get}}
use Rattle.world_search.specs.declared.{graphs.Node.Node, claims.Met.Met}
use Rattle.world_search.proofs.claims.look_for.Goals as goal

pub returns-in_ok-push-in-Some : goal.returns-in_ok-push-in-Some
returns-in_ok-push-in-Some g c =
    let ws = g.W.Worlds.worlds c.args.worlds.now in
    let claim = c.index-claims-number.result in
    let world = c.in-Some.world in
    let low : world < length c.args.nodes.now = subst (λ o. IfSome o (λ j. j < length c.args.nodes.now)) c.in-Some.is c.in_ok-first_meeting.ensures.within in
    let d : Node = record { from = 0; depth = 0; fiber = 0 } in
    let node : Node = slice_index_or c.args.nodes.now world d in
    let m : Met = record { claim = c.args.number; schedule = c.in_ok-schedule-in-Some.schedule } in
    let there : slice_get c.args.claims.now c.args.number ≡ Some claim = grind (arith, common_steps, gets) in
    let at : slice_get c.args.nodes.now world ≡ Some node = slice_get-get_or c.args.nodes.now world d low in
    let holds = subst (λ o. IfSome o (λ j. (w : g.row.W-World.Denot) → slice_get ws j ≡ Some w → g.W.Claims.meets w claim ≡ true)) c.in-Some.is
    c.in_ok-first_meeting.ensures.meets in
    record {
      adds = inr (
        m,
        c.in_ok-push-in-Some.ensures.items,
        refl,
        (
          claim,
          there,
          record {
            number = world;
            node = node;
            at = at;
            holds = holds;
            path = c.in_ok-schedule-in-Some.ensures;
          },
        ),
      );
    }
