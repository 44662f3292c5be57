use Rattle.std.proofs.{Common.{◌≡◌, ◌∷◌, [], ◌+◌, ◌<◌, get_or, take, length, sym, ◌∙◌, arith, rules}, Math.Seq.take-suc, lemmas.Fmt.decimal_digit}
use Rattle.text_io.proofs.ScheduleLemmas.{digit_more}
use Rattle.text_io.proofs.schedule.lead.Goals as goal

pub loop-at-init : goal.loop-at-init
loop-at-init c =
    let bs = c.args.bytes.now in
    let v = c.from-value.result in
    let low : 0 < length bs = search rules in
    let here : get_or bs 0 0 ≡ 48 + v = search rules in
    let front : take 1 bs ≡ get_or bs 0 0 ∷ [] = take-suc bs 0 0 low in
    record { few = omega arith; is = front ∙ rw here (sym (decimal_digit v (omega arith))) }

pub loop-at-preserved : goal.loop-at-preserved
loop-at-preserved c =
    let bs = c.args.bytes.now in
    let i = c.loop-at.at in
    let v = c.loop-at.value in
    let low : i < length bs = search rules in
    let here : get_or bs i 0 ≡ 48 + c.from.result = search rules in
    let next = digit_more bs i v c.from.result low here (omega arith) (omega arith) (omega arith) c.loop-at.invariant.is in
    record { few = omega arith; is = next }
