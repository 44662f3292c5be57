use Rattle.std.proofs.Common.{sym, subst}
use Rattle.fiber_frames.specs.declared.ask.Ask.{Ask}
use Rattle.every_schedule.specs.Private.Stopping.{IsWaitReply, IsWaiting}
use Rattle.every_schedule.proofs.Stopping.{asks_no_word}
use Rattle.every_schedule.proofs.progress.is_masked_wait.Goals as goal

pub returns-in-None : goal.returns-in-None
returns-in-None c =
    sym (asks_no_word c.args.config.now c.requires.0 c.requires.1 (λ w. c.in-None.ensures.none (subst IsWaiting (sym c.ask.ensures.ask) w)))

pub looks_no_more-requires : goal.looks_no_more-requires
looks_no_more-requires c = subst (λ (a : Ask). IsWaitReply a c.in-Some.reply) c.ask.ensures.ask c.in-Some.ensures.some
