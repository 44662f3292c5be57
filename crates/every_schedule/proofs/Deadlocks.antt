-- If all fibers have ended in each answer, each fiber can end after each schedule.
use Rattle.std.proofs.Common.{◌≡◌, ℕ, ◌≤◌, List, [], ◌∷◌, ◌++◌, length, set, Option, Some, None, Result, Ok, Err, refl, sym, ap, ◌∙◌, subst, arith}
use Rattle.std.{proofs.{Common.{length-append, length-set}, lemmas.{List.Sums.fold-append, Option.{slice_get-map, slice_get_within}}}, specs.List.{All, fold}}
use Rattle.std.specs.{List.slice_get, Option.option_map}
use Rattle.derived_ops.specs.Tree.{Tree}
use Rattle.cell_registry.specs.{declared.{limits.{Limits.Limits, RunError.RunError, CellError.CellError}, call.Call.Call}, Cells.{refusal, reply_of}}
use Rattle.fiber_frames.specs.Fiber.{Fiber, ask_of, move, silent_move}
use Rattle.scheduled_core.specs.{declared.{wish.Wish.{Wish, TheVariants.{Shared, Alone, Nothing}}, report.Report.Report}, Core.{World, answered, born, core}}
use Rattle.scheduled_core.specs.{Core.{entered, fiber_report, first_world, reported, turned, wish_of, wished}, Finals.HasEnded}
use Rattle.every_schedule.{specs.{declared.exploration.Answer.Answer, Explored.{AllHaveEnded, IsAnswered, IsListed, NeverEnds}}, proofs.Told.all_at}
use Rattle.every_schedule.proofs.Told.{at_within}

module _ (k : Limits) where
  -- ---- no entry takes a fiber away
  abbrev Lasts : World → World → Type 0
  Lasts w v = length w.fibers ≤ length v.fibers

  led : (w u v : World) → Lasts w u → (let x : Result World RunError = Ok u in x) ≡ Ok v → Lasts w v
  led w u v h e = let same : u ≡ v = cc in subst (Lasts w) same h

  by_answer : (w : World) (f : ℕ) (g : Fiber) (c : Call) (o : Option CellError) (v : World) → answered w f g c o ≡ Ok v → Lasts w v
  by_answer w f g c None v e =
      let r = reply_of w.cells f c in
      let more = length-append (set w.fibers f (move g r)) (born g c r) in
      let same = length-set w.fibers f (move g r) in
      led w _ v (omega arith) e
  by_answer w f g c (Some d) v e = absurd (cc)

  by_wish : (w : World) (f : ℕ) (g : Fiber) (x : Wish) (v : World) → wished k w f g x ≡ Ok v → Lasts w v
  by_wish w f g (Shared c) v e = by_answer w f g c (refusal k w.cells f c) v e
  by_wish w f g Alone v e = let same = length-set w.fibers f (silent_move g) in led w _ v (omega arith) e
  by_wish w f g Nothing v e = led w w v (omega arith) e

  by_fiber : (w : World) (f : ℕ) (o : Option Fiber) (v : World) → turned k w f o ≡ Ok v → Lasts w v
  by_fiber w f None v e = led w w v (omega arith) e
  by_fiber w f (Some g) v e = by_wish w f g (wish_of (ask_of g)) v e

  stuck : (d : RunError) (s : List ℕ) → fold (entered k) (Err d) s ≡ Err d
  stuck d [] = refl
  stuck d (f ∷ s) = stuck d s

  lasts_on : (s : List ℕ) (w v : World) (y : Result World RunError) → ((u : World) → y ≡ Ok u → Lasts w u) →
      ((u : World) → fold (entered k) (Ok u) s ≡ Ok v → Lasts u v) → fold (entered k) y s ≡ Ok v → Lasts w v
  lasts_on s w v (Ok u) one rest e = let a = one u refl in let b = rest u e in omega arith
  lasts_on s w v (Err d) one rest e = let no : Err d ≡ Ok v = sym (stuck d s) ∙ e in absurd (cc)

  lasts : (s : List ℕ) (w v : World) → fold (entered k) (Ok w) s ≡ Ok v → Lasts w v
  lasts [] w v e = led w w v (omega arith) e
  lasts (f ∷ s) w v e =
      lasts_on s w v (entered k (Ok w) f) (λ u is. by_fiber w f (slice_get w.fibers f) u is) (λ u is. lasts s u v is) e

  -- ---- a fiber that is born has ended, if all have
  ended_at : (f : ℕ) (w v : World) (fiber : Fiber) → slice_get w.fibers f ≡ Some fiber → Lasts w v → AllHaveEnded (reported (Ok v)) →
      (g : Fiber) × (slice_get v.fibers f ≡ Some g) × HasEnded g
  ended_at f w v fiber here long all =
      let low = slice_get_within w.fibers f fiber here in
      let g = at_within v.fibers f (omega arith) in
      (g.0, g.1, all f (fiber_report g.0) (slice_get-map fiber_report v.fibers f ∙ ap (option_map fiber_report) g.1))

  module _ (answers : List Answer) (all : All (λ a. AllHaveEnded a.end) answers) where
    listed_so : (end : Result Report RunError) → IsListed answers end → AllHaveEnded end
    listed_so end h = subst AllHaveEnded h.3 (all_at (λ a. AllHaveEnded a.end) answers h.0 h.1 h.2 all)

    by_end : (w : World) (f : ℕ) (more : List ℕ) (y : Result World RunError) → fold (entered k) (Ok w) more ≡ y → IsAnswered k answers y →
        NeverEnds k w f → ⊥
    by_end w f more (Ok v) leads h stays =
        let g = ended_at f w v stays.fiber stays.here (lasts more w v leads) (listed_so (reported (Ok v)) h.1) in
        stays.never more v g.0 leads g.1 g.2
    by_end w f more (Err d) leads h stays = listed_so (Err d) h

    -- so no fiber waits for ever
    pub none_waits : (code : Tree) (s more : List ℕ) (w : World) (f : ℕ) → core code k s ≡ Ok w → IsAnswered k answers (core code k (s ++ more)) →
        NeverEnds k w f → ⊥
    unfolding core
    none_waits code s more w f leads h stays =
        let on : core code k (s ++ more) ≡ fold (entered k) (Ok w) more =
        fold-append (entered k) (Ok (first_world code k)) s more ∙ ap (λ x. fold (entered k) x more) leads in
        by_end w f more (fold (entered k) (Ok w) more) refl (subst (IsAnswered k answers) on h) stays
