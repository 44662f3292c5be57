use Rattle.std.{proofs.Common.{List, subst}, specs.{Prelude.{IfNone, IfSome}, Option.is_some}}
use Rattle.world_search.specs.{declared.claims.Met.Met, Claims.IsFound}
use Rattle.model_runs.{specs.{Moments.has_fault, Private.Looking.{IsMetAt, moment_verdict}}, proofs.Looks.{judged, shown_by}}
use Rattle.model_runs.proofs.moments.judge_at.Goals as goal

pub returns-clause-judged : goal.returns-clause-judged
returns-clause-judged c = λ code k wanted words right there.
    let it = c.args.moments.now in
    let claim = c.args.claim.now in
    let ends = c.args.ends.now in
    let at = c.met_number-met.result in
    let some = subst (λ (ms : List Met). IfSome at (IsMetAt ms c.args.number)) c.as_slice-2.ensures.value c.met_number-met.ensures.some in
    let none = subst (λ (ms : List Met). IfNone at (IsFound c.args.number ms → ⊥)) c.as_slice-2.ensures.value c.met_number-met.ensures.none in (
      moment_verdict claim.rule (has_fault ends.answers.items) (is_some at) ends.complete it.search.complete,
      cc,
      judged code k wanted words it c.args.number right there claim.rule (has_fault ends.answers.items) ends.complete at some none,
    )

pub returns-clause-shown : goal.returns-clause-shown
returns-clause-shown c = λ code k wanted words right there.
    let at = c.met_number-met.result in
    let some = subst (λ (ms : List Met). IfSome at (IsMetAt ms c.args.number)) c.as_slice-2.ensures.value c.met_number-met.ensures.some in
    shown_by code k wanted words c.args.moments.now c.args.number right there c.decider.result.at_moment c.decider.result.shown
    at some c.decider.ensures.moment
