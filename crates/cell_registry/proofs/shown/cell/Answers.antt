use Rattle.cell_registry.proofs.Prelude.{sym, ap, ◌∙◌, Ended, Finalizing, Cell}
use Rattle.cell_registry.proofs.Replies.{control-phase}
use Rattle.cell_registry.proofs.Showing.{cell_is, stage_running, stage_finalizing, stage_ended}
use Rattle.cell_registry.proofs.shown.cell.Goals as goal

pub returns-then-control-eq0 : goal.returns-then-control-eq0
returns-then-control-eq0 c d h =
    let is = c.unpack-control.ensures.inverse _ h.range h.word in
    c.running-cell.ensures ∙ cell_is d _ _ is (stage_running d.stage (control-phase _ d is ∙ c.if-control-eq0.true))

pub returns-then-control-eq1 : goal.returns-then-control-eq1
returns-then-control-eq1 c d h =
    let is = c.unpack-control.ensures.inverse _ h.range h.word in
    c.finalize.ensures ∙ ap (λ (x : Cell). record x { stage = Finalizing }) c.running-cell.ensures ∙
    cell_is d _ _ is (stage_finalizing d.stage (control-phase _ d is ∙ c.if-control-eq1.true))

pub returns : goal.returns
returns c d h =
    let is = c.unpack-control.ensures.inverse _ h.range h.word in
    let e = stage_ended d.stage (λ p. c.if-control-eq0.false (sym (control-phase _ d is) ∙ p)) (λ p. c.if-control-eq1.false (sym (control-phase _ d is) ∙ p)) in
    c.end.ensures ∙ ap (λ (x : Cell). record x { stage = Ended c.outcome_answer.result }) c.running-cell.ensures ∙
    cell_is d _ _ is (ap Ended (c.outcome_answer.ensures d e.0 h.range h.word e.1 (h.value e.0 e.1)) ∙ sym e.1)
