use Rattle.std.{proofs.Common.{◌≡◌, ℕ, List, [], ◌∷◌, sym, ap, ◌∙◌, subst, arith, length, length-append}, specs.Prelude.{Some, Option, IfSome}}
use Rattle.std.specs.List.{slice_get}
use Rattle.world_search.proofs.Lists.{more_long, more_more}
use Rattle.fair_ends.{specs.{declared.table.Row.Row, Private.Tables.{AreRows, IsRow}}, proofs.Rows.rows_next}
use Rattle.fair_ends.proofs.table.table_of.Goals as goal

pub loop-index-preserved : goal.loop-index-preserved
loop-index-preserved g c =
    let known = c.loop-index.invariant in
    let told = c.in_ok-row_at.ensures in
    let ws = g.W.Worlds.worlds c.loop-index.worlds in
    let vs = g.W.Worlds.worlds c.row_at.new.worlds in
    let long = more_long ws vs told.grows in
    let many = known.many in
    let pushed = c.in_ok-push-in-Some.ensures.items in
    let here : (w : g.row.W-World.Denot) → slice_get vs c.loop-index.index ≡ Some w → IsRow g.W.Resting.entry g.W.Resting.free g.W.Worlds.step g.W.Worlds.most_born vs w c.in-Some.row =
    subst (λ (o : Option Row). IfSome o (λ (r : Row). (w : g.row.W-World.Denot) → slice_get vs c.loop-index.index ≡ Some w →
    IsRow g.W.Resting.entry g.W.Resting.free g.W.Worlds.step g.W.Worlds.most_born vs w r)) c.in-Some.is told.row in
    record {
      grows = more_more (g.W.Worlds.worlds c.args.worlds.now) ws vs known.grows told.grows;
      many = (let all = length-append c.loop-index.rows.items (c.in-Some.row ∷ []) in let is = ap (λ (l : List Row). length l) pushed in omega arith);
      low = (let a = c.if-index-len.false in let b = c.len.ensures in omega arith);
      rows = subst (λ (l : List Row). AreRows g.W.Resting.entry g.W.Resting.free g.W.Worlds.step g.W.Worlds.most_born vs l) (sym pushed)
          (rows_next g.W.Resting.entry g.W.Resting.free g.W.Worlds.step g.W.Worlds.most_born ws vs c.loop-index.rows.items c.in-Some.row told.grows
          (let a = c.if-index-len.false in let b = c.len.ensures in omega arith) known.rows
          (λ w at. here w (subst (λ (k : ℕ). slice_get vs k ≡ Some w) many at)));
      watches = c.lets_go_on.ensures.same ∙ known.watches;
    }
