-- Fiber 0 at its beginning fits the registry's first pass, and stands there.
use Rattle.std.proofs.Common.{◌≡◌, ℕ, refl, sym, ap, subst, arith}
use Rattle.derived_ops.specs.{Naming.Given, Tree.Tree}
use Rattle.fiber_frames.specs.{Fiber.{Fiber, begins}, Naming.NamedBeginning}
use Rattle.cell_registry.specs.{Histories.left, Passes.{PassView, RegistryView, first_pass}}
use Rattle.scheduled_core.{specs.{Fitting.{Fits, pass_registered}, Stands.Opens}, proofs.Replied.begins_fits}
use Rattle.fiber_poll.specs.Tasks.{IsTaskOf, TaskView}

first_fits_at : (r : RegistryView) (code : Tree) → ((b : Given) → NamedBeginning b (begins 0 code)) → Fits (pass_registered (first_pass r)) (begins 0 code)
unfolding left
first_fits_at r code n = begins_fits _ 0 code (n _) (omega arith)

pub first_fits : (r : RegistryView) (code : Tree) (p : PassView) (g : Fiber) → ((b : Given) → NamedBeginning b g) → p ≡ first_pass r →
    g ≡ begins 0 code → Fits (pass_registered p) g
first_fits r code p g n p_is g_is =
    let at : Fits (pass_registered (first_pass r)) (begins 0 code) = first_fits_at r code (λ b. subst (NamedBeginning b) g_is (n b)) in
    subst (λ x. Fits x g) (sym (ap pass_registered p_is)) (subst (Fits (pass_registered (first_pass r))) (sym g_is) at)

pub first_task : (r : RegistryView) (code : Tree) (t : TaskView) (p : PassView) (g : Fiber) (n : ℕ) → p ≡ first_pass r → g ≡ begins 0 code →
    t ≡ record { home = r; pass = p; state = g; moves = n } → IsTaskOf r code n t
first_task r code t p g n p_is g_is t_is = subst (IsTaskOf r code n) (sym t_is) record {
  home = refl;
  stands = Opens p.seen p.number g n (ap (λ (x : PassView). x.seen) p_is) (ap (λ (x : PassView). x.number) p_is) g_is refl;
}
