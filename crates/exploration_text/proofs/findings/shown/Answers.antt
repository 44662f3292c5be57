use Rattle.std.proofs.Common.{◌≡◌, true, inl, inr, length, ap, arith, sym, ◌∙◌, subst}
use Rattle.exploration_text.specs.{Findings.{HasEndedFirst, ended, final}, Wants.is_failure}
use Rattle.exploration_text.proofs.findings.shown.Goals as goal

pub returns-then-as_slice-entries : goal.returns-then-as_slice-entries
returns-then-as_slice-entries c =
    let unwanted : is_failure c.args.wants.now c.args.answer.now.end ≡ true = sym c.is_failure.ensures ∙ c.if-not-is_failure.false in
    let same = ap length c.as_slice.ensures in
    final unwanted (inl (omega (arith, same, c.if-as_slice-entries.true)))

pub returns-in-Some : goal.returns-in-Some
returns-in-Some c =
    let unwanted : is_failure c.args.wants.now c.args.answer.now.end ≡ true = sym c.is_failure.ensures ∙ c.if-not-is_failure.false in
    ended unwanted (subst HasEndedFirst (sym c.in-Ok.is) (c.in-Some.field-0, sym c.first_outcome.ensures ∙ c.in-Some.is))

pub returns-in-Err : goal.returns-in-Err
returns-in-Err c =
    let unwanted : is_failure c.args.wants.now c.args.answer.now.end ≡ true = sym c.is_failure.ensures ∙ c.if-not-is_failure.false in
    final unwanted (inr (c.in-Err.field-0, c.in-Err.is))
