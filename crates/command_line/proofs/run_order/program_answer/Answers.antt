use Rattle.std.proofs.Common.{IfOk, subst, sym}
use Rattle.command_words.specs.declared.running.RunForm.{RunForm}
use Rattle.command_line.specs.Runs.{comes_as}
use Rattle.command_line.proofs.run_order.program_answer.Goals as goal

pub returns-in-Report : goal.returns-in-Report
returns-in-Report g c = subst (λ (f : RunForm). IfOk c.run_answer.result (λ a. comes_as f c.args.options c.args.program a.text.items a.status))
    (sym c.in-Report.is) c.run_answer.ensures

pub returns-in-Record : goal.returns-in-Record
returns-in-Record g c = subst (λ (f : RunForm). IfOk c.record_answer.result (λ a. comes_as f c.args.options c.args.program a.text.items a.status))
    (sym c.in-Record.is) c.record_answer.ensures

pub returns-in-Timeline : goal.returns-in-Timeline
returns-in-Timeline g c = subst (λ (f : RunForm). IfOk c.timed_answer.result (λ a. comes_as f c.args.options c.args.program a.text.items a.status))
    (sym c.in-Timeline.is) c.timed_answer.ensures

pub returns-in-Json : goal.returns-in-Json
returns-in-Json g c = subst (λ (f : RunForm). IfOk c.json_answer.result (λ a. comes_as f c.args.options c.args.program a.text.items a.status))
    (sym c.in-Json.is) c.json_answer.ensures
