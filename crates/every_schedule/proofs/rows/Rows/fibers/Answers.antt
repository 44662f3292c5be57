use Rattle.std.proofs.{Common.{◌<◌, length, sym, subst, arith}, lemmas.List.length-map}
use Rattle.every_schedule.specs.Private.Packed.{Packed, row_of}
use Rattle.every_schedule.proofs.rows.Rows.fibers.Goals as goal

pub index-head-requires : goal.index-head-requires
index-head-requires c =
    let s = c.self.inside in
    let many = length-map s.heads.items (row_of s.numbers.items) in
    let low = subst (λ (x : Packed). c.args.world < length x.rows) (sym c.self.view_is) c.requires in
    omega arith
