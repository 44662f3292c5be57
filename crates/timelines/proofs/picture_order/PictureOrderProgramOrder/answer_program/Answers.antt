use Rattle.std.proofs.Common.{◌≡◌, List, ℕ, Ok, Err, sym, ◌∙◌, subst}
use Rattle.text_io.specs.declared.status.Status.{Status}
use Rattle.text_io.specs.declared.status.Status.TheVariants as ends
use Rattle.outcome_trace.specs.ReplayAnswers.{replayed}
use Rattle.timelines.specs.PictureAnswers.{IsPicturedAnswer, pictures, faults}
use Rattle.timelines.proofs.picture_order.PictureOrderProgramOrder.answer_program.Goals as goal

pub returns-in-Ok : goal.returns-in-Ok
returns-in-Ok c =
    let self = c.args.self.now in
    let core : replayed c.args.program.now self.limits self.schedule.now ≡ Ok c.in-Ok.report = sym c.in_ok-told.ensures.told.end ∙ c.in-Ok.is in
    subst (λ (x : Status). IsPicturedAnswer c.args.program.now self.schedule.now self.limits c.into_bytes.result.items x) (sym c.report_status.ensures)
    (pictures c.in-Ok.report c.into_bytes.result.items core)

pub returns : goal.returns
returns c =
    let self = c.args.self.now in
    let core : replayed c.args.program.now self.limits self.schedule.now ≡ Err c.in-Err.error = sym c.in_ok-told.ensures.told.end ∙ c.in-Err.is in
    subst (λ (xs : List ℕ). IsPicturedAnswer c.args.program.now self.schedule.now self.limits xs ends.Fault) (sym c.in_ok-line-in-Err.ensures)
    (faults c.in-Err.error core)
