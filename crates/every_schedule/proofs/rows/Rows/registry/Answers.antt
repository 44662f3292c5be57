use Rattle.std.proofs.{Common.{◌≡◌, ◌<◌, length, sym, ap, ◌∙◌, subst, arith}, lemmas.{Grind.common_steps, List.length-map, Option.{gets, same_Some}}}
use Rattle.std.specs.{Prelude.Some, List.slice_get}
use Rattle.every_schedule.{specs.Private.{Numbered.Numbers, Packed.{Packed, row_of}}, proofs.Numbered.map_get}
use Rattle.every_schedule.proofs.rows.Rows.registry.Goals as goal

pub index-requires : goal.index-requires
index-requires c =
    let s = c.self.inside in
    let many = length-map s.heads.items (row_of s.numbers.items) in
    let low = subst (λ (x : Packed). c.args.world < length x.rows) (sym c.self.view_is) c.requires in
    omega arith

pub returns : goal.returns
returns c = λ n at.
    let s = c.self.inside in
    let many = length-map s.heads.items (row_of s.numbers.items) in
    let low = subst (λ (x : Packed). c.args.world < length x.rows) (sym c.self.view_is) c.requires in
    let head : slice_get s.heads.items c.args.world ≡ Some c.index.result.now = grind (arith, common_steps, gets) in
    let there = subst (λ (x : Packed). slice_get x.rows c.args.world ≡ Some n) (sym c.self.view_is) at in
    ap (λ (x : Numbers). x.registry) (same_Some _ n (sym (map_get (row_of s.numbers.items) s.heads.items c.args.world c.index.result.now head) ∙ there))
