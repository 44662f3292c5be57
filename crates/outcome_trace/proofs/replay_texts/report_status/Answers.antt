use Rattle.std.proofs.Common.{rules}
use Rattle.outcome_trace.proofs.replay_texts.report_status.Goals as goal

pub returns-in-Some-Canceled : goal.returns-in-Some-Canceled
returns-in-Some-Canceled c = search rules
