use Rattle.timelines.proofs.ToldExplored.{told_text}
use Rattle.timelines.proofs.explore_timelines.told_text.Goals as goal

pub returns : goal.returns
returns c =
    told_text c.args.unwanted c.args.answer.now c.in_ok-text.text.items _ c.push_rows.new.text.items c.in_ok-text.ensures c.in_ok-push_rows.ensures
