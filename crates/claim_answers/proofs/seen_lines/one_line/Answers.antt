use Rattle.std.proofs.Common.{◌∙◌, ap}
use Rattle.std.proofs.lemmas.Result.{IfOk-weaker}
use Rattle.claim_answers.specs.Drawn.{seen_line}
use Rattle.claim_answers.specs.Verdicts.{json_line}
use Rattle.claim_answers.proofs.seen_lines.one_line.Goals as goal

pub returns-then-json : goal.returns-then-json
returns-then-json c =
    let a = c.args.asked.now in
    let v = c.args.verdict.now in
    rw c.if-json.true
    (IfOk-weaker c.json_line.result _ _
    (λ line is. (c.in_ok-shown.shown.items, c.in_ok-shown.ensures, is ∙ ap (json_line a.rule a.claim.text.items v) c.as_slice.ensures.value))
    c.json_line.ensures)

pub returns : goal.returns
returns c =
    let a = c.args.asked.now in
    let v = c.args.verdict.now in
    rw c.if-json.false
    (IfOk-weaker c.seen_line.result _ _
    (λ line is. (
      c.in_ok-shown.shown.items,
      c.in_ok-shown.ensures,
      is ∙ ap (λ s. seen_line a.rule a.claim.text.items v s c.args.times) c.as_slice-else-json.ensures.value,
    ))
    c.seen_line.ensures)
