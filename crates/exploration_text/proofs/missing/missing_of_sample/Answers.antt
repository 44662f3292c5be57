use Rattle.std.{proofs.Common.{◌∙◌, false, ap, arith, sym}, specs.List.list_any}
use Rattle.exploration_text.{specs.Missing.has_outcome, proofs.MissingLines.{named, passed_over}}
use Rattle.exploration_text.proofs.missing.missing_of_sample.Goals.{then-not-coming_has+in_ok-push_line, else-not-coming_has}
use Rattle.exploration_text.proofs.missing.missing_of_sample.Goals as goal

pub loop-want-preserved : goal.loop-want-preserved
loop-want-preserved c =
    let has = ap (λ cs. list_any (λ c'. has_outcome c.want-item.result c'.answer.end) cs) (sym c.as_slice.ensures) ∙ sym c.coming_has.ensures in
    elim c.if-not-coming_has.branch [
      | then-not-coming_has+in_ok-push_line w ↦
          named false (λ want. list_any (λ c'. has_outcome want c'.answer.end) c.args.sample.now.comings) c.args.wants.now c.loop-want.want-index
          c.want-item.result c.loop-want.text.items c.if-not-coming_has.text.items (omega arith) c.want-item.is (has ∙ w.if-not-coming_has.true)
          (ap (λ v. v.items) w.text-is ∙ w.in_ok-push_line.ensures) c.loop-want.invariant
      | else-not-coming_has w ↦
          passed_over false (λ want. list_any (λ c'. has_outcome want c'.answer.end) c.args.sample.now.comings) c.args.wants.now c.loop-want.want-index
          c.want-item.result c.loop-want.text.items c.if-not-coming_has.text.items (omega arith) c.want-item.is (has ∙ w.if-not-coming_has.false)
          (ap (λ v. v.items) w.text-is) c.loop-want.invariant
    ]
