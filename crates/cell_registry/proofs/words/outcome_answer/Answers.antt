use Rattle.cell_registry.proofs.Prelude.{sym, ap, ◌∙◌, kind_at}
use Rattle.cell_registry.proofs.Replies.{control-kind, value_is, succeeded_of, errored_of, canceled_of}
use Rattle.cell_registry.proofs.words.outcome_answer.Goals as goal

pub returns-then-control-eq-SUCCEEDED : goal.returns-then-control-eq-SUCCEEDED
returns-then-control-eq-SUCCEEDED c d o range e ends holds =
    let kind = sym (ap kind_at ends) ∙ control-kind _ d (c.unpack-control.ensures.inverse _ range e) ∙ c.if-control-eq-SUCCEEDED.true in
    succeeded_of o _ kind (c.word_value.ensures.value ∙ value_is c.args.value o holds)

pub returns-then-control-eq-ERRORED : goal.returns-then-control-eq-ERRORED
returns-then-control-eq-ERRORED c d o range e ends holds =
    let kind = sym (ap kind_at ends) ∙ control-kind _ d (c.unpack-control.ensures.inverse _ range e) ∙ c.if-control-eq-ERRORED.true in
    errored_of o _ kind (c.word_value-then-control-eq-ERRORED.ensures.value ∙ value_is c.args.value o holds)

pub returns-else-control-eq-ERRORED : goal.returns-else-control-eq-ERRORED
returns-else-control-eq-ERRORED c d o range e ends holds =
    let kind = sym (ap kind_at ends) ∙ control-kind _ d (c.unpack-control.ensures.inverse _ range e) in
    canceled_of o (λ k. c.if-control-eq-SUCCEEDED.false (sym kind ∙ k)) (λ k. c.if-control-eq-ERRORED.false (sym kind ∙ k))
