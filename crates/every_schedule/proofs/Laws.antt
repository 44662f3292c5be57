-- What follows from a complete exploration.
use Rattle.std.{proofs.Common.{◌≡◌, ℕ, List, Result, Ok, Err, sym, ◌∙◌, subst}, specs.List.All}
use Rattle.cell_registry.specs.declared.limits.{Limits.Limits, RunError.RunError}
use Rattle.scheduled_core.specs.{declared.report.Report.Report, Core.{World, reported}, Finals.IsSettled}
use Rattle.every_schedule.specs.{declared.exploration.Answer.Answer, Explored.{EndAlike, HasNoFault, HasOutcome, IsAnswered, IsCovered, IsListed}}
use Rattle.every_schedule.proofs.Told.{all_at}

module _ (k : Limits) (answers : List Answer) where
  -- if no fault is listed, no schedule faults
  pub faultless : (x : Result World RunError) (e : RunError) → IsCovered k answers x → HasNoFault answers → x ≡ Err e → ⊥
  faultless x e h none is = none e (subst (IsCovered k answers) is h)

  -- if all answers have the same end, each settled world has it
  pub alike : (x : Result World RunError) (end : Result Report RunError) (w : World) → IsCovered k answers x → EndAlike answers end → x ≡ Ok w →
      IsSettled k w → reported (Ok w) ≡ end
  alike x end w h same is settled =
      let covered : IsCovered k answers (Ok w) = subst (IsCovered k answers) is h in
      let it = covered settled in
      sym it.3 ∙ same it.0 it.1 it.2

  listed_ends : (f : ℕ) (end : Result Report RunError) → All (λ a. HasOutcome f a.end) answers → IsListed answers end → HasOutcome f end
  listed_ends f end all h = subst (HasOutcome f) h.3 (all_at (λ a. HasOutcome f a.end) answers h.0 h.1 h.2 all)

  -- if a fiber has ended in each answer, it has ended in each end that is answered
  pub ended : (f : ℕ) (x : Result World RunError) → All (λ a. HasOutcome f a.end) answers → IsAnswered k answers x → HasOutcome f (reported x)
  ended f (Ok w) all h = listed_ends f (reported (Ok w)) all h.1
  ended f (Err e) all h = listed_ends f (Err e) all h
