use Rattle.std.proofs.{Common.{◌≡◌, ◌*◌, ◌%◌, ◌^◌, arith}, lemmas.Nat.or_shifted}
use Rattle.control_word.proofs.control.joined.Goals as goal

pub returns : goal.returns
returns c =
    let whole : c.args.high * 2 ^ c.args.width % 18446744073709551616 ≡ c.args.high * 2 ^ c.args.width = omega arith in
    rw whole (or_shifted c.args.high c.args.width c.args.low c.requires.low)
