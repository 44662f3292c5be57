use Rattle.std.proofs.Common.{◌≡◌, ◌⊎◌, inl, inr, false, Ok, Err, sym, ap, ap₂, ◌∙◌, subst, rules}
use Rattle.std.specs.Prelude.{IfErr}
use Rattle.std.specs.List.{slice_get}
use Rattle.std.proofs.lemmas.Result.{IfErr-weaker}
use Rattle.cell_registry.specs.declared.limits.RunError.TheVariants as run
use Rattle.every_schedule.specs.Claims.{View, noted, seeing, stored_by, viewed}
use Rattle.every_outcome.specs.Private.Reduced.{leapt}
use Rattle.every_outcome.proofs.claim_worlds.ClaimWorld.after.Goals as goal

pub returns-clause-goes : goal.returns-clause-goes
returns-clause-goes c =
    let w = c.self.inside in
    let f = c.args.fiber in
    let set : c.in_ok-seen.seen.items ≡ noted w.seen.items (stored_by (slice_get w.world.world.fibers f)) =
    c.in_ok-seen.ensures ∙ ap₂ noted c.as_slice.ensures.value c.stored_by.ensures in
    subst (λ (v : View). viewed (leapt false false) v f ≡ Ok record { place = c.in_ok-world.world; seen = c.in_ok-seen.seen.items }) c.self.view_is
    (ap₂ seeing (sym set) c.in_ok-world.ensures.goes)

pub returns-in_err-world-clause-stops : goal.returns-in_err-world-clause-stops
returns-in_err-world-clause-stops c =
    let w = c.self.inside in
    let f = c.args.fiber in
    let y = c.from_residual-in_err-world.result in
    let told : IfErr y (λ e. (e ≡ run.NoMemory) ⊎ (leapt false false w.world f ≡ Err e)) = search rules in
    IfErr-weaker y (λ e. (e ≡ run.NoMemory) ⊎ (leapt false false w.world f ≡ Err e))
    (λ e. (e ≡ run.NoMemory) ⊎ (viewed (leapt false false) c.args.self.now f ≡ Err e)) (λ e h. elim h [
      | inl memory ↦ inl memory
      | inr fault ↦ inr (subst (λ (v : View). viewed (leapt false false) v f ≡ Err e) c.self.view_is
          (ap (seeing (noted w.seen.items (stored_by (slice_get w.world.world.fibers f)))) fault))
    ]) told
