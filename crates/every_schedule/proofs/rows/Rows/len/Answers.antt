use Rattle.std.proofs.{Common.{◌≡◌, length, map, ap, arith}, lemmas.List.length-map}
use Rattle.every_schedule.specs.Private.Packed.{Packed, row_of}
use Rattle.every_schedule.proofs.rows.Rows.len.Goals as goal

pub returns : goal.returns
returns c =
    let s = c.self.inside in
    let many = length-map s.heads.items (row_of s.numbers.items) in
    let view : length (map (row_of s.numbers.items) s.heads.items) ≡ length c.args.self.now.rows = ap (λ (x : Packed). length x.rows) c.self.view_is in
    omega arith
