use Rattle.std.proofs.{Common.{Some, None, arith}, lemmas.Str.Pattern.split_parts}
use Rattle.text_io.proofs.ScheduleLemmas.{no_at}
use Rattle.text_io.proofs.schedule.first_item.Goals as goal

pub returns-in-Some-clause-alone : goal.returns-in-Some-clause-alone
returns-in-Some-clause-alone c =
    let parts = split_parts 32 c.args.text.now (Some (c.in-Some.first, c.in-Some.rest)) c.in-Some.ensures.cases (omega arith) in
    no_at 32 c.in-Some.first.now parts.1

pub returns-in-None-clause-alone : goal.returns-in-None-clause-alone
returns-in-None-clause-alone c = no_at 32 c.args.text.now (split_parts 32 c.args.text.now None c.in-None.ensures.cases (omega arith))
