use Rattle.std.{proofs.{Common.{◌≡◌, ◌∙◌, ap, sym, true, arith, Ok}, lemmas.Fmt.parse-decimal}, specs.declared.num.ParseIntError.ParseIntError}
use Rattle.text_io.{specs.Digits.is_plain, proofs.ScheduleLemmas.{parsed, decimal_plain}}
use Rattle.text_io.proofs.schedule.number.Goals as goal

pub returns-then-not-is_plain-clause-none : goal.returns-then-not-is_plain-clause-none
returns-then-not-is_plain-clause-none c = λ n l e.
    let plain : is_plain c.args.digits.now ≡ true = ap is_plain e ∙ decimal_plain n (omega (arith, c.ranges.most.fits)) in
    let told : c.is_plain.result ≡ true = c.is_plain.ensures ∙ ap is_plain c.as_bytes.ensures.value ∙ plain in
    cc

pub returns-in-Ok-clause-found : goal.returns-in-Ok-clause-found
returns-in-Ok-clause-found c =
    let plain : is_plain c.args.digits.now ≡ true = sym (c.is_plain.ensures ∙ ap is_plain c.as_bytes.ensures.value) ∙ c.if-not-is_plain.false in
    (c.if-value-most.true, parsed {E = ParseIntError} c.args.digits.now (Ok c.in-Ok.value) plain c.in-Ok.ensures.value.0)

pub returns-in_default-clause-none : goal.returns-in_default-clause-none
returns-in_default-clause-none c = λ n l e.
    let read : c.parse.result ≡ Ok n =
    parse-decimal 32 n c.args.digits.now c.parse.result (omega (arith, c.ranges.most.fits)) (omega (arith, c.ranges.most.fits)) e c.parse.ensures.value.0 in
    let same : c.in-Ok.value ≡ n = cc in
    omega arith

pub returns-in_default-2-clause-none : goal.returns-in_default-2-clause-none
returns-in_default-2-clause-none c = λ n l e.
    let read : c.parse.result ≡ Ok n =
    parse-decimal 32 n c.args.digits.now c.parse.result (omega (arith, c.ranges.most.fits)) (omega (arith, c.ranges.most.fits)) e c.parse.ensures.value.0 in
    cc
