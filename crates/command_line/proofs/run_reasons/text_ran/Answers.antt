use Rattle.std.proofs.Common.{ℕ}
use Rattle.std.specs.declared.alloc.Global.{Global}
use Rattle.std.specs.declared.vec.Vec.{Vec}
use Rattle.std.proofs.lemmas.Result.{IfOk-weaker}
use Rattle.steal_pool.specs.Runs.{limits_of}
use Rattle.outcome_trace.specs.Answers.{refuses, runs}
use Rattle.command_line.proofs.ReasonLemmas.{refusal_replayed, text_replayed}
use Rattle.command_line.proofs.run_reasons.text_ran.Goals as goal

pub returns-in-Ok-clause-answers : goal.returns-in-Ok-clause-answers
returns-in-Ok-clause-answers g c =
    IfOk-weaker c.program_ran.result _ _
    (λ ran h. runs c.args.text.now ran.answer.text.items ran.answer.status c.in-Ok.program c.in-Ok.ensures.program c.in-Ok.ensures.limits h)
    c.program_ran.ensures.answers

pub returns-in-Ok-clause-replayed : goal.returns-in-Ok-clause-replayed
returns-in-Ok-clause-replayed g c =
    IfOk-weaker c.program_ran.result _ _
    (λ ran h. text_replayed (λ (v : Vec ℕ Global). v.items) c.args.text.now ran.answer.text.items ran.answer.status (limits_of c.args.options)
    c.in-Ok.program ran.entries c.in-Ok.ensures.program c.in-Ok.ensures.limits h) c.program_ran.ensures.replayed

pub returns-in-Err-clause-answers : goal.returns-in-Err-clause-answers
returns-in-Err-clause-answers g c =
    IfOk-weaker c.refused_ran.result _ _ (λ ran h. refuses c.args.text.now ran.answer.text.items ran.answer.status h) c.refused_ran.ensures

pub returns-in-Err-clause-replayed : goal.returns-in-Err-clause-replayed
returns-in-Err-clause-replayed g c =
    IfOk-weaker c.refused_ran.result _ _
    (λ ran h. refusal_replayed (λ (v : Vec ℕ Global). v.items) c.args.text.now ran.answer.text.items ran.answer.status (limits_of c.args.options)
    ran.entries h) c.refused_ran.ensures
