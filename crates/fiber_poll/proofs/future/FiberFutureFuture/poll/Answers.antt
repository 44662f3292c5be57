use Rattle.std.proofs.Common.{refl, rules}
use Rattle.fiber_poll.proofs.Results.{comes_back, fault_comes, still_polled}
use Rattle.fiber_poll.proofs.future.FiberFutureFuture.poll.Goals as goal

pub returns-in_default : goal.returns-in_default
returns-in_default c =
    let t = c.in-Ok.ensures.turned in
    record {
      turn = rw c.yield_now.ensures.pending
          (still_polled c.args.self.now.task c.turn-turned.new.self c.args.self.now.budget c.in-Ok.turn t c.in_default.not-Ended c.in_default.not-OutOfMoves);
      budget = refl;
      yielded = search rules;
      value = search rules;
      again = search rules;
      same = rw c.yield_now.ensures.pending (λ r came. comes_back c.args.self.now.task c.turn-turned.new.self t.replies r t.went came);
      registered = search rules;
      kept = search rules;
    }

pub returns-in-Err-clause-turn : goal.returns-in-Err-clause-turn
returns-in-Err-clause-turn c = search rules

pub returns-in-Err-clause-value : goal.returns-in-Err-clause-value
returns-in-Err-clause-value c = fault_comes c.args.self.now.task c.turn-turned.new.self c.args.self.now.budget c.in-Err.fault c.in-Err.ensures.stopped
