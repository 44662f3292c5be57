use Rattle.std.{proofs.Common.{◌≡◌, ◌<◌, ℕ, List, map, sym, ap, ◌∙◌, subst}, specs.{Prelude.Ok, List.All}}
use Rattle.derived_ops.specs.{Expansion.code_of, Reading.source_of}
use Rattle.scheduled_core.specs.Core.{core}
use Rattle.every_outcome.specs.declared.outcomes.OutcomeAnswer.{OutcomeAnswer}
use Rattle.every_outcome.specs.Outcomes.{IsCovered, IsListed, IsReached, ListOnce, counted, outcomes}
use Rattle.every_outcome.specs.Private.Bare.{outcome_answer}
use Rattle.every_outcome.proofs.Bare.{covered_bare, listed_bare, numbers_bare, once_bare, reached_bare}
use Rattle.every_outcome.proofs.exploring.explore_outcomes.Goals as goal

pub returns-clause-all : goal.returns-clause-all
returns-clause-all g c = λ complete count schedule.
    let code = code_of (source_of c.args.program.now) in
    let found = c.in_ok-found.found in
    let bare : c.in_ok-answers.answers.items ≡ map outcome_answer found.answers =
    c.in_ok-answers.ensures ∙ ap (map outcome_answer) c.as_slice.ensures in
    let end = core code (counted c.args.limits count) schedule in
    subst (λ (l : List OutcomeAnswer). IsCovered c.args.limits l end) (sym bare)
    (covered_bare found.answers c.args.limits end (c.in_ok-found.ensures.all complete count schedule))

pub returns-clause-settled : goal.returns-clause-settled
returns-clause-settled g c = λ complete count schedule w leads stays.
    let found = c.in_ok-found.found in
    let bare : c.in_ok-answers.answers.items ≡ map outcome_answer found.answers =
    c.in_ok-answers.ensures ∙ ap (map outcome_answer) c.as_slice.ensures in
    subst (λ (l : List OutcomeAnswer). IsListed l (outcomes (Ok w))) (sym bare)
    (listed_bare found.answers (Ok w) (c.in_ok-found.ensures.settled complete count schedule w leads stays))

pub returns-clause-each : goal.returns-clause-each
returns-clause-each g c =
    let code = code_of (source_of c.args.program.now) in
    let found = c.in_ok-found.found in
    let bare : c.in_ok-answers.answers.items ≡ map outcome_answer found.answers =
    c.in_ok-answers.ensures ∙ ap (map outcome_answer) c.as_slice.ensures in
    subst (λ (l : List OutcomeAnswer). All (IsReached code c.args.limits) l) (sym bare)
    (reached_bare found.answers code c.args.limits c.in_ok-found.ensures.each)

pub returns-clause-once : goal.returns-clause-once
returns-clause-once g c =
    let code = code_of (source_of c.args.program.now) in
    let found = c.in_ok-found.found in
    let bare : c.in_ok-answers.answers.items ≡ map outcome_answer found.answers =
    c.in_ok-answers.ensures ∙ ap (map outcome_answer) c.as_slice.ensures in
    subst (λ (l : List OutcomeAnswer). ListOnce l) (sym bare)
    (once_bare found.answers code c.args.limits c.in_ok-found.ensures.each c.in_ok-found.ensures.once)

pub returns-clause-numbers : goal.returns-clause-numbers
returns-clause-numbers g c =
    let found = c.in_ok-found.found in
    let bare : c.in_ok-answers.answers.items ≡ map outcome_answer found.answers =
    c.in_ok-answers.ensures ∙ ap (map outcome_answer) c.as_slice.ensures in
    subst (λ (l : List OutcomeAnswer). All (λ a. All (λ (f : ℕ). f < 1000) a.schedule) l) (sym bare)
    (numbers_bare found.answers c.in_ok-found.ensures.numbers)
