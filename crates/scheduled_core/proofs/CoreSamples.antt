-- The core of some programs of many fibers, with reports worked by hand.
use Rattle.std.{proofs.Common.{◌≡◌, ℕ, pos, negsuc, List, [], ◌∷◌, ◌++◌, replicate, refl, Ok, Err}, specs.Prelude.{Some, None, Result}}
use Rattle.effect_term.specs.{Values.wrapped, declared.reply.Outcome.TheVariants.{Succeeded, Errored, Canceled}}
use Rattle.derived_ops.specs.{Tree.{Operand, Number, Slot, Last, More}, Source.Source, Expansion.code_of}
use Rattle.fiber_frames.specs.declared.mark.Mark.TheVariants.{Say, Enter, Leave, PollIn, PollOut, Cut, Acquired, Releasing, Released}
use Rattle.cell_registry.specs.{declared.limits.{Limits.Limits, Band.TheVariants.Fibers, RunError.{RunError, TheVariants.{Full, Spent}}}, Cells.after}
use Rattle.cell_registry.specs.Cells.{reply_of, refusal}
use Rattle.scheduled_core.specs.{declared.report.Report.Report, Core.{core, reported}}
use Rattle.derived_ops.specs.Source as word

abbrev few : Limits
few = record { fibers = 3; refs = 1; deferreds = 1; count = 100 }

abbrev report_of : Limits → Source → List ℕ → Result Report RunError
report_of k t schedule = reported (core (code_of t) k schedule)

-- `(start f (never) (pure 1))`
abbrev started : Source
started = word.Start word.Never (word.Pure (Number (pos 1)))

-- entries of unborn and of ended fibers change nothing
unended_child : report_of few started (5 ∷ 1 ∷ (replicate 13 0 ++ replicate 6 1)) ≡ Ok record {
  fibers = record { outcome = Some (Succeeded (pos 1)); marks = [] } ∷ record { outcome = None; marks = [] } ∷ [];
}
unfolding core after reply_of refusal
unended_child = refl

-- `(start f (uncancelable p (seq (say 1) (poll p (say 2)) (say 3))) (cancel f))`
abbrev canceled_child : Source
canceled_child =
    word.Start
    (word.Uncancelable (word.Seq More (word.Say (Number (pos 1))) (word.Seq Last (word.Poll 0 (word.Say (Number (pos 2)))) (word.Say (Number (pos 3))))))
    (word.Cancel 0)

canceled_at_once : report_of few canceled_child (replicate 5 0 ++ replicate 30 1 ++ replicate 9 0) ≡ Ok record {
  fibers = record { outcome = Some (Succeeded (pos 0)); marks = Enter 0 ∷ Leave 0 ∷ [] } ∷ record { outcome = Some Canceled; marks = Cut ∷ [] } ∷ [];
}
unfolding core after reply_of refusal
canceled_at_once = refl

canceled_in_the_poll : report_of few canceled_child (replicate 2 0 ++ replicate 4 1 ++ replicate 3 0 ++ replicate 30 1 ++ replicate 9 0) ≡ Ok record {
  fibers = record { outcome = Some (Succeeded (pos 0)); marks = Enter 0 ∷ Leave 0 ∷ [] } ∷ record {
    outcome = Some Canceled;
    marks =
        Enter 0 ∷ Say (pos 1) ∷ PollIn 0 ∷ Cut ∷ [];
  } ∷ [];
}
unfolding core after reply_of refusal
canceled_in_the_poll = refl

-- a request that comes after the poll has closed is observed at the end of the mask
canceled_after_the_poll : report_of few canceled_child (replicate 2 0 ++ replicate 9 1 ++ replicate 3 0 ++ replicate 30 1 ++ replicate 9 0) ≡ Ok record {
  fibers = record { outcome = Some (Succeeded (pos 0)); marks = Enter 0 ∷ Leave 0 ∷ [] }
      ∷ record { outcome = Some Canceled; marks = Enter 0 ∷ Say (pos 1) ∷ PollIn 0 ∷ Say (pos 2) ∷ PollOut 0 ∷ Say (pos 3) ∷ Leave 0 ∷ Cut ∷ [] }
      ∷ [];
}
unfolding core after reply_of refusal
canceled_after_the_poll = refl

canceled_too_late : report_of few canceled_child (replicate 2 0 ++ replicate 13 1 ++ replicate 3 0 ++ replicate 30 1 ++ replicate 9 0) ≡ Ok record {
  fibers = record { outcome = Some (Succeeded (pos 0)); marks = Enter 0 ∷ Leave 0 ∷ [] }
      ∷ record { outcome = Some (Succeeded (pos 0)); marks = Enter 0 ∷ Say (pos 1) ∷ PollIn 0 ∷ Say (pos 2) ∷ PollOut 0 ∷ Say (pos 3) ∷ Leave 0 ∷ [] }
      ∷ [];
}
unfolding core after reply_of refusal
canceled_too_late = refl

-- `(uncancelable p (start f (uncancelable q (seq (canceled) (poll p (say 1)))) (join f x (pure 1) e (pure 2) (pure 3))))`
abbrev polls_its_parents_mask : Source
polls_its_parents_mask =
    word.Uncancelable
    (word.Start
    (word.Uncancelable (word.Seq Last word.Canceled (word.Poll 0 (word.Say (Number (pos 1))))))
    (word.Join 1 (word.Pure (Number (pos 1))) (word.Pure (Number (pos 2))) (word.Pure (Number (pos 3)))))

-- a poll of another fiber's mask, which has the same number, undoes nothing
poll_of_another_fiber : report_of few polls_its_parents_mask (replicate 10 0 ++ replicate 20 1 ++ replicate 10 0) ≡ Ok record {
  fibers = record { outcome = Some (Succeeded (pos 3)); marks = Enter 0 ∷ Leave 0 ∷ [] }
      ∷ record { outcome = Some Canceled; marks = Enter 0 ∷ Say (pos 1) ∷ Leave 0 ∷ Cut ∷ [] }
      ∷ [];
}
unfolding core after reply_of refusal
poll_of_another_fiber = refl

-- `(ref r 0 (let x (race (pure 4) (oncancel (never) (set r 9))) (let y (get r) (add x y))))`
abbrev raced : Source
raced =
    word.Ref (Number (pos 0)) (word.Let
    (word.Race (word.Pure (Number (pos 4))) (word.On_cancel word.Never (word.Set 0 (Number (pos 9)))))
    (word.Let (word.Get 0) (word.Add (Slot 1) (Slot 2))))

loser_runs_its_finalizer :
    report_of few raced (replicate 15 0 ++ replicate 10 2 ++ replicate 40 1 ++ replicate 40 0 ++ replicate 40 2 ++ replicate 40 0) ≡ Ok record {
      fibers = record { outcome = Some (Succeeded (pos 13)); marks = Enter 0 ∷ PollIn 0 ∷ PollOut 0 ∷ Enter 1 ∷ Leave 1 ∷ Leave 0 ∷ [] }
          ∷ record { outcome = Some (Succeeded (pos 4)); marks = Enter 0 ∷ PollIn 0 ∷ PollOut 0 ∷ Leave 0 ∷ [] }
          ∷ record { outcome = Some Canceled; marks = Enter 0 ∷ PollIn 0 ∷ Cut ∷ [] }
          ∷ [];
    }
unfolding core after reply_of refusal
loser_runs_its_finalizer = refl

-- the second side of `(race (pure 1) (pure 2))` is a third fiber
too_many_fibers : report_of (record few { fibers = 2 }) (word.Race (word.Pure (Number (pos 1))) (word.Pure (Number (pos 2)))) (replicate 99 0) ≡ Err
    (Full Fibers 2)
unfolding core after reply_of refusal
too_many_fibers = refl

-- the fourth change of the only fiber's cell is refused: `(uncancelable p (canceled))` makes four
count_used_up : report_of (record few { count = 3 }) (word.Uncancelable word.Canceled) (replicate 7 0) ≡ Err (Spent 0)
unfolding core after reply_of refusal
count_used_up = refl

-- `(bracket x (pure 1) (pure 2) (raise 8))`
released_with_an_error : report_of few (word.Bracket (word.Pure (Number (pos 1))) (word.Pure (Number (pos 2))) (word.Raise (Number (pos 8))))
    (replicate 99 0) ≡ Ok record {
      fibers = record {
        outcome = Some (Errored (pos 8));
        marks =
            Enter 0 ∷ Acquired 0 ∷ Enter 1 ∷ PollIn 1 ∷ PollIn 0 ∷ PollOut 0 ∷ PollOut 1 ∷ Releasing 0 ∷ Released 0 ∷ Leave 1 ∷ Leave 0 ∷ [];
      } ∷ [];
    }
unfolding core after reply_of refusal
released_with_an_error = refl

abbrev num : ℕ → Operand
num n = Number (pos n)

-- `(pure -1)`
abbrev minus_one : Source
minus_one = word.Pure (Number (negsuc 0))

-- `(start f (pure 5) (start g (join f x (pure x) e (raise e) (pure -1)) (seq (join f x (say x) e (pure 0) (pure 0))
-- (join f x (say x) e (pure 0) (pure 0)) (join g x (pure x) e (raise e) (pure -1)))))`
abbrev joined_thrice : Source
joined_thrice =
    let says = word.Join 0 (word.Say (Slot 2)) (word.Pure (num 0)) (word.Pure (num 0)) in
    word.Start
    (word.Pure (num 5))
    (word.Start
    (word.Join 0 (word.Pure (Slot 1)) (word.Raise (Slot 1)) minus_one)
    (word.Seq More says (word.Seq Last says (word.Join 1 (word.Pure (Slot 2)) (word.Raise (Slot 2)) minus_one))))

one_outcome_for_all : report_of few joined_thrice (replicate 4 0 ++ replicate 9 1 ++ replicate 9 2 ++ replicate 40 0) ≡ Ok record {
  fibers = record { outcome = Some (Succeeded (pos 5)); marks = Say (pos 5) ∷ Say (pos 5) ∷ [] }
      ∷ record { outcome = Some (Succeeded (pos 5)); marks = [] }
      ∷ record { outcome = Some (Succeeded (pos 5)); marks = [] }
      ∷ [];
}
unfolding core after reply_of refusal
one_outcome_for_all = refl

-- joins that wait until the end give it too
one_outcome_after_waits : report_of few joined_thrice (replicate 9 0 ++ replicate 9 2 ++ replicate 9 1 ++ replicate 9 2 ++ replicate 40 0) ≡ Ok record {
  fibers = record { outcome = Some (Succeeded (pos 5)); marks = Say (pos 5) ∷ Say (pos 5) ∷ [] }
      ∷ record { outcome = Some (Succeeded (pos 5)); marks = [] }
      ∷ record { outcome = Some (Succeeded (pos 5)); marks = [] }
      ∷ [];
}
unfolding core after reply_of refusal
one_outcome_after_waits = refl

-- `(start f (pure 5) (seq (join f x (pure x) e (pure 0) (pure 0)) (cancel f) (cancel f)
-- (join f x (pure x) e (raise e) (pure -1))))`
abbrev canceled_after_its_end : Source
canceled_after_its_end =
    word.Start
    (word.Pure (num 5))
    (word.Seq More
    (word.Join 0 (word.Pure (Slot 1)) (word.Pure (num 0)) (word.Pure (num 0)))
    (word.Seq More (word.Cancel 0) (word.Seq Last (word.Cancel 0) (word.Join 0 (word.Pure (Slot 1)) (word.Raise (Slot 1)) minus_one))))

cancel_of_an_ended_fiber : report_of few canceled_after_its_end (replicate 2 0 ++ replicate 9 1 ++ replicate 60 0) ≡ Ok record {
  fibers = record { outcome = Some (Succeeded (pos 5)); marks = Enter 0 ∷ Leave 0 ∷ Enter 1 ∷ Leave 1 ∷ [] } ∷ record {
    outcome =
        Some (Succeeded (pos 5));
    marks = [];
  } ∷ [];
}
unfolding core after reply_of refusal
cancel_of_an_ended_fiber = refl

-- `(race (canceled) (canceled))`
both_sides_canceled : report_of few (word.Race word.Canceled word.Canceled) (replicate 20 0 ++ replicate 30 1 ++ replicate 30 2 ++ replicate 60 0) ≡ Ok record {
  fibers = record { outcome = Some Canceled; marks = Enter 0 ∷ PollIn 0 ∷ PollOut 0 ∷ PollIn 0 ∷ PollOut 0 ∷ PollIn 0 ∷ Cut ∷ [] }
      ∷ record { outcome = Some Canceled; marks = Enter 0 ∷ PollIn 0 ∷ Cut ∷ [] }
      ∷ record { outcome = Some Canceled; marks = Enter 0 ∷ PollIn 0 ∷ Cut ∷ [] }
      ∷ [];
}
unfolding core after reply_of refusal
both_sides_canceled = refl

-- `(both (pure 3) (pure 4) x y (add x y))`
both_values : report_of few (word.Both (word.Pure (num 3)) (word.Pure (num 4)) (word.Add (Slot 0) (Slot 1))) (replicate 20 0 ++ replicate 30 1 ++
    replicate 30 2 ++ replicate 80 0) ≡ Ok record {
      fibers = record { outcome = Some (Succeeded (pos 7)); marks = Enter 0 ∷ PollIn 0 ∷ PollOut 0 ∷ PollIn 0 ∷ PollOut 0 ∷ Leave 0 ∷ [] }
          ∷ record { outcome = Some (Succeeded (pos 3)); marks = Enter 0 ∷ PollIn 0 ∷ PollOut 0 ∷ Leave 0 ∷ [] }
          ∷ record { outcome = Some (Succeeded (pos 4)); marks = Enter 0 ∷ PollIn 0 ∷ PollOut 0 ∷ Leave 0 ∷ [] }
          ∷ [];
    }
unfolding core after reply_of refusal
both_values = refl

-- `(both (raise 5) (never) x y (pure 0))`
one_side_fails : report_of few (word.Both (word.Raise (num 5)) word.Never (word.Pure (num 0))) (replicate 20 0 ++ replicate 30 1 ++ replicate 30 0 ++
    replicate 30 2 ++ replicate 30 0) ≡ Ok record {
      fibers = record { outcome = Some (Errored (pos 5)); marks = Enter 0 ∷ PollIn 0 ∷ PollOut 0 ∷ Enter 1 ∷ Leave 1 ∷ Leave 0 ∷ [] }
          ∷ record { outcome = Some (Errored (pos 5)); marks = Enter 0 ∷ PollIn 0 ∷ PollOut 0 ∷ Leave 0 ∷ [] }
          ∷ record { outcome = Some Canceled; marks = Cut ∷ [] }
          ∷ [];
    }
unfolding core after reply_of refusal
one_side_fails = refl

-- `(ref r 4611686018427387903 (let a (modify r 1) (let b (get r) (seq (say a) (say b) (pure 0)))))`
modified_modulo : report_of few
    (word.Ref (num 4611686018427387903)
    (word.Let (word.Modify 0 (num 1))
    (word.Let (word.Get 0) (word.Seq More (word.Say (Slot 1)) (word.Seq Last (word.Say (Slot 2)) (word.Pure (num 0))))))) (replicate 99 0) ≡ Ok record {
      fibers = record { outcome = Some (Succeeded (pos 0)); marks = Say (pos 4611686018427387903) ∷ Say (negsuc 4611686018427387903) ∷ [] } ∷ [];
    }
unfolding core after reply_of refusal wrapped
modified_modulo = refl

-- `(deferred d (let a (complete d 5) (let b (complete d 6) (let c (await d) (seq (say a) (say b) (pure c))))))`
completed_once : report_of few
    (word.Deferred (word.Let (word.Complete 0 (num 5))
    (word.Let (word.Complete 0 (num 6))
    (word.Let (word.Await 0) (word.Seq More (word.Say (Slot 1)) (word.Seq Last (word.Say (Slot 2)) (word.Pure (Slot 3)))))))) (replicate 99 0) ≡ Ok record {
      fibers = record { outcome = Some (Succeeded (pos 5)); marks = Say (pos 1) ∷ Say (pos 0) ∷ [] } ∷ [];
    }
unfolding core after reply_of refusal
completed_once = refl

-- `(deferred d (await d))`
never_completed : report_of few (word.Deferred (word.Await 0)) (replicate 99 0) ≡ Ok record { fibers = record { outcome = None; marks = [] } ∷ [] }
unfolding core after reply_of refusal
never_completed = refl

-- `(start f (seq (cede) (cede) (pure 2)) (start g (join f x (pure x) e (pure 0) (pure 0))
-- (seq (cancel g) (join f x (pure x) e (pure 0) (pure -1)))))`
abbrev canceled_join : Source
canceled_join =
    word.Start
    (word.Seq More word.Cede (word.Seq Last word.Cede (word.Pure (num 2))))
    (word.Start
    (word.Join 0 (word.Pure (Slot 1)) (word.Pure (num 0)) (word.Pure (num 0)))
    (word.Seq Last (word.Cancel 1) (word.Join 0 (word.Pure (Slot 2)) (word.Pure (num 0)) minus_one)))

wait_is_canceled_alone :
    report_of few canceled_join (replicate 4 0 ++ replicate 4 2 ++ replicate 9 0 ++ replicate 9 2 ++ replicate 9 0 ++ replicate 20 1 ++
    replicate 20 0) ≡ Ok record {
      fibers = record { outcome = Some (Succeeded (pos 2)); marks = Enter 0 ∷ Leave 0 ∷ [] }
          ∷ record { outcome = Some (Succeeded (pos 2)); marks = [] }
          ∷ record { outcome = Some Canceled; marks = Cut ∷ [] }
          ∷ [];
    }
unfolding core after reply_of refusal
wait_is_canceled_alone = refl
