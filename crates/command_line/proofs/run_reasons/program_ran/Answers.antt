use Rattle.std.proofs.Common.{ℕ}
use Rattle.std.specs.declared.alloc.Global.{Global}
use Rattle.std.specs.declared.vec.Vec.{Vec}
use Rattle.command_line.proofs.RecordLemmas.{ended_answers, replayed_answers}
use Rattle.command_line.proofs.run_reasons.program_ran.Goals as goal

pub returns-clause-answers : goal.returns-clause-answers
returns-clause-answers g c =
    let ran = c.run_spelled-end.ensures in
    ended_answers c.args.program c.args.options c.run_spelled-end.result.end c.in_ok-answer.answer ran.spent ran.lawful ran.full ran.faults
    c.in_ok-answer.ensures.text c.in_ok-answer.ensures.status

pub returns-clause-replayed : goal.returns-clause-replayed
returns-clause-replayed g c =
    let ran = c.run_spelled-end.ensures in
    replayed_answers (λ (v : Vec ℕ Global). v.items) c.args.program c.args.options c.run_spelled-end.result.end c.run_spelled-end.result.schedule
    c.in_ok-entries.entries c.in_ok-answer.answer ran.recorded c.in_ok-answer.ensures.text c.in_ok-answer.ensures.status c.in_ok-entries.ensures.some
