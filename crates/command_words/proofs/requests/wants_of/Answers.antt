use Rattle.std.proofs.Common.{◌∙◌, ap, rules}
use Rattle.command_words.proofs.WantLemmas.{next_read, none_of}
use Rattle.command_words.proofs.requests.wants_of.Goals.{in-Some-Ended+in_ok-push-in-Some-Ended, in-Some-Unended+in_ok-push-in-Some-Unended}
use Rattle.command_words.proofs.requests.wants_of.Goals as goal

pub returns-in-None-clause-none : goal.returns-in-None-clause-none
returns-in-None-clause-none c = none_of c.args.texts.now c.loop-text.text-index _ c.loop-text-test.true c.in-None.ensures.none

pub loop-text-preserved : goal.loop-text-preserved
loop-text-preserved c = elim c.match-read_want-2.branch [
  | in-Some-Ended+in_ok-push-in-Some-Ended w ↦
      let far = next_read c.args.texts.now c.loop-text.text-index _ c.loop-text.wants.items c.match-read_want-2.wants.items c.read_want.result _
      (ap (λ v. v.items) w.wants-is ∙ w.in_ok-push-in-Some-Ended.ensures.items) (search rules) c.loop-text-test.true c.read_want.ensures.some
      c.read_want.ensures.range
      c.loop-text.invariant.spelled c.loop-text.invariant.ranges in
      record { spelled = far.spelled; ranges = far.ranges }
  | in-Some-Unended+in_ok-push-in-Some-Unended w ↦
      let far = next_read c.args.texts.now c.loop-text.text-index _ c.loop-text.wants.items c.match-read_want-2.wants.items c.read_want.result _
      (ap (λ v. v.items) w.wants-is ∙ w.in_ok-push-in-Some-Unended.ensures.items) (search rules) c.loop-text-test.true c.read_want.ensures.some
      c.read_want.ensures.range
      c.loop-text.invariant.spelled c.loop-text.invariant.ranges in
      record { spelled = far.spelled; ranges = far.ranges }
]
