use Rattle.std.proofs.{Common.{◌≡◌, ◌⊎◌, inl, inr, ℕ, ◌<◌, ◌≤◌, List, get_or, Option, None, Some, refl, sym, ap, ◌∙◌, arith, subst}, lemmas.Grind.common_steps}
use Rattle.std.{proofs.lemmas.Option.{gets, same_Some}, specs.{Prelude.IfSome, List.slice_get}}
use Rattle.cell_registry.specs.Cells.{Cells}
use Rattle.fiber_frames.specs.Fiber.{Fiber}
use Rattle.scheduled_core.{specs.{Finals.{HasEnded, IsAtRest}, Fitting.{Fits, cell_registered}}, proofs.Settling.{below_length, none_of, one_settled, some_of}}
use Rattle.scheduled_core.proofs.finals.next.Goals.{then-not-is_done, else-not-is_done}
use Rattle.scheduled_core.proofs.finals.next.Goals as goal

-- what is known of a fiber where the one with the most moves left is o
abbrev Behind : List ℕ → Cells → ℕ → ℕ → Fiber → Type 0
Behind rests cells o f g = (HasEnded g ⊎ IsAtRest cells f g) ⊎ (get_or rests f 0 ≤ get_or rests o 0)

-- one that has no fewer left than the best one so far
older : (fibers : List Fiber) (rests : List ℕ) (cells : Cells) (best : Option ℕ) (many o : ℕ)
    → (best ≡ None → (f : ℕ) (g : Fiber) → f < many → slice_get fibers f ≡ Some g → HasEnded g ⊎ IsAtRest cells f g)
    → ((b : ℕ) → best ≡ Some b → (f : ℕ) (g : Fiber) → f < many → slice_get fibers f ≡ Some g → Behind rests cells b f g)
    → IfSome best (λ other. get_or rests other 0 ≤ get_or rests o 0)
    → (f : ℕ) (g : Fiber) → f < many → slice_get fibers f ≡ Some g → Behind rests cells o f g
older fibers rests cells None many o none most less f g low at = inl (none refl f g low at)
older fibers rests cells (Some b) many o none most less f g low at = elim (most b refl f g low at) [
  | inl done ↦ inl done
  | inr few ↦ inr (omega (arith, few, less))
]

pub is_done-requires : goal.is_done-requires
is_done-requires c =
    let at : slice_get c.args.fibers.now c.loop-config.config-index ≡ Some c.config-item.result = grind (arith, common_steps, gets) in
    let fits = c.requires.each c.loop-config.config-index c.config-item.result at in
    subst (λ (n : ℕ). Fits (cell_registered c.args.registry.now.state n) c.config-item.result) (sym fits.number) fits

pub loop-config-preserved : goal.loop-config-preserved
loop-config-preserved c =
    let i = c.loop-config.invariant in
    let g = c.config-item.result in
    let at : slice_get c.args.fibers.now c.loop-config.config-index ≡ Some g = grind (arith, common_steps, gets) in
    let number = (c.requires.each c.loop-config.config-index g at).number in
    elim c.if-not-is_done.branch [
      | then-not-is_done w ↦ record {
        none = λ e. absurd (let no : None ≡ Some w.better.result = sym e ∙ w.best-is in cc);
        some = λ f e.
            let same : w.better.result ≡ f = same_Some w.better.result f (sym w.best-is ∙ e) in
            elim w.better.ensures.one [
              | inl n ↦ record {
                fiber = g;
                here = subst (λ m. slice_get c.args.fibers.now m ≡ Some g) (sym number ∙ sym w.number.ensures ∙ sym n ∙ same) at;
                unended = c.is_done.ensures.unended w.if-not-is_done.true;
              }
              | inr b ↦ i.some f (b ∙ ap Some same)
            ];
        most = λ o e.
            let same : w.better.result ≡ o = same_Some w.better.result o (sym w.best-is ∙ e) in
            let own : get_or c.args.rests.now c.loop-config.config-index 0 ≤ get_or c.args.rests.now o 0 =
            subst (λ n. get_or c.args.rests.now n 0 ≤ get_or c.args.rests.now o 0) (w.number.ensures ∙ number)
            (subst (λ n. get_or c.args.rests.now w.number.result 0 ≤ get_or c.args.rests.now n 0) same w.better.ensures.number) in
            one_settled (Behind c.args.rests.now c.args.registry.now.state o) c.args.fibers.now c.loop-config.config-index g
            (older c.args.fibers.now c.args.rests.now c.args.registry.now.state c.loop-config.best c.loop-config.config-index o i.none i.most
            (subst (λ n. IfSome c.loop-config.best (λ other. get_or c.args.rests.now other 0 ≤ get_or c.args.rests.now n 0)) same
            w.better.ensures.best)) at (inr own);
      }
      | else-not-is_done w ↦ record {
        none = λ e. one_settled (λ f x. HasEnded x ⊎ IsAtRest c.args.registry.now.state f x) c.args.fibers.now c.loop-config.config-index g
            (i.none (sym w.best-is ∙ e)) at
            (subst (λ n. HasEnded g ⊎ IsAtRest c.args.registry.now.state n g) number (c.is_done.ensures.done w.if-not-is_done.false));
        some = λ f e. i.some f (sym w.best-is ∙ e);
        most = λ o e. one_settled (Behind c.args.rests.now c.args.registry.now.state o) c.args.fibers.now c.loop-config.config-index g
            (i.most o (sym w.best-is ∙ e)) at
            (inl (subst (λ n. HasEnded g ⊎ IsAtRest c.args.registry.now.state n g) number (c.is_done.ensures.done w.if-not-is_done.false)));
      }
    ]

pub returns-clause-none : goal.returns-clause-none
returns-clause-none c =
    none_of c.loop-config.best
    (λ e f g at. c.loop-config.invariant.none e f g (let long = below_length c.args.fibers.now f g at in let end = c.loop-config-test.false in omega arith) at)

pub returns-clause-most : goal.returns-clause-most
returns-clause-most c =
    some_of c.loop-config.best
    (λ o e f g at. c.loop-config.invariant.most o e f g
    (let long = below_length c.args.fibers.now f g at in let end = c.loop-config-test.false in omega arith) at)
