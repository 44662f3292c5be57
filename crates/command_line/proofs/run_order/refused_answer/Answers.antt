use Rattle.std.proofs.Common.{IfOk, subst, sym}
use Rattle.command_words.specs.declared.running.RunForm.{RunForm}
use Rattle.command_line.specs.Runs.{refused_as}
use Rattle.command_line.proofs.run_order.refused_answer.Goals as goal

pub returns-in-Report : goal.returns-in-Report
returns-in-Report c =
    subst (λ (f : RunForm). IfOk c.text_refusal.result (λ a. refused_as f c.args.text.now a.text.items a.status)) (sym c.in-Report.is) c.text_refusal.ensures

pub returns-in-Record : goal.returns-in-Record
returns-in-Record c = subst (λ (f : RunForm). IfOk c.text_refusal-in-Record.result (λ a. refused_as f c.args.text.now a.text.items a.status))
    (sym c.in-Record.is) c.text_refusal-in-Record.ensures

pub returns-in-Timeline : goal.returns-in-Timeline
returns-in-Timeline c = subst (λ (f : RunForm). IfOk c.text_refusal-in-Timeline.result (λ a. refused_as f c.args.text.now a.text.items a.status))
    (sym c.in-Timeline.is) c.text_refusal-in-Timeline.ensures

pub returns-in-Json : goal.returns-in-Json
returns-in-Json c = subst (λ (f : RunForm). IfOk c.refusal_answer.result (λ a. refused_as f c.args.text.now a.text.items a.status))
    (sym c.in-Json.is) c.refusal_answer.ensures
