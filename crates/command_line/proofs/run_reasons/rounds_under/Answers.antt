use Rattle.std.proofs.Common.{◌≡◌, rules}
use Rattle.command_line.proofs.ReasonLemmas.{same_replayed}
use Rattle.command_line.proofs.run_reasons.rounds_under.Goals as goal

pub returns-then-eq-2 : goal.returns-then-eq-2
returns-then-eq-2 c =
    let text : c.in_ok-replayed.replayed.text.items ≡ c.args.answer.now.text.items = search rules in
    let status : c.in_ok-replayed.replayed.status ≡ c.args.answer.now.status = search rules in
    same_replayed _ _ _ _ _ _ _ _ c.in_ok-replayed.ensures c.as_slice-schedule.ensures.value text status
