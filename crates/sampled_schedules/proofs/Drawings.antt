-- Schedules that are drawn.
use Rattle.std.proofs.Common.{◌≡◌, ◌≢◌, inl, inr, ℕ, zero, suc, ◌+◌, Bool, true, false, List, [], ◌∷◌, length, Result, Ok, Err, IfOk, refl, sym, ap, ◌∙◌, subst}
use Rattle.std.{proofs.{Common.arith, lemmas.Option.{same_Some, slice_get-map}}, specs.{Prelude.Some, List.{All, slice_get}, Option.option_map}}
use Rattle.derived_ops.specs.Tree.{Tree}
use Rattle.cell_registry.specs.declared.limits.{Limits.Limits, RunError.RunError}
use Rattle.scheduled_core.specs.{declared.report.Report.Report, Core.{World, core, fiber_report, first_world, reported}, Finals.IsFinal}
use Rattle.every_schedule.{specs.{declared.exploration.Answer.Answer, Explored.IsReached}, proofs.Told.{all_at, all_from}}
use Rattle.sampled_schedules.specs.{declared.comings.{Coming.Coming, Drawn.Drawn}, Sampled.{IsCutShort, IsDrawing, IsSampleOf, IsUnended, StaysSo}}
use Rattle.sampled_schedules.{specs.Private.{Noting.IsNoted, Walking.{HasUnendedFiber, came, was_cut}}, proofs.Tallies.{nothing_tallied, tallied}}
use Rattle.sampled_schedules.proofs.Walked.{IsWalkOr, Stays, final_stays_so, went}
use Rattle.cell_registry.specs.declared.limits.RunError.TheVariants as run

start : (code : Tree) (k : Limits) (w : World) → w ≡ first_world code k → core code k [] ≡ Ok w
unfolding core
start code k w is = ap Ok (sym is)

reached_well : (code : Tree) (k : Limits) (v : World) (s : List ℕ) (end : Result Report RunError) → core code k s ≡ Ok v → end ≡ reported (Ok v) →
    IsFinal v → IsReached code k record { schedule = s; end = end }
reached_well code k v s end leads is final = record {
  reached = ap reported leads ∙ sym is;
  settled = subst (λ (x : Result World RunError). IfOk x (Stays k)) (sym leads) (final_stays_so k v final);
}

-- the report of a world in which a fiber hasn't ended
unended_so : (v : World) (end : Result Report RunError) → end ≡ reported (Ok v) → HasUnendedFiber v.fibers → IsUnended end
unended_so v end is h =
    subst IsUnended (sym is) (h.0, fiber_report h.1, slice_get-map fiber_report v.fibers h.0 ∙ ap (option_map fiber_report) h.2, h.3)

-- the end of a walk from the first world is a drawing
pub drawn_of : (code : Tree) (k : Limits) (most : ℕ) (w v : World) (walked : Result Bool RunError) (s : List ℕ) (end : Result Report RunError) →
    w ≡ first_world code k → IsWalkOr walked k w [] v s most → walked ≢ Err run.NoMemory → IfOk walked (λ cut. cut ≡ false → IsFinal v) →
    IfOk walked (λ cut. cut ≡ true → (length s ≡ most) × HasUnendedFiber v.fibers) → end ≡ reported (came walked v) →
    IsDrawing code k most record { answer = record { schedule = s; end = end }; cut = was_cut walked }
drawn_of code k most w v (Ok false) s end first walked lacks final long is =
    let walk = went false k w v [] s most walked in
    let leads : core code k s ≡ Ok v = walk.leads code (start code k w first) in
    let well = reached_well code k v s end leads is (final refl) in
    record {
      drawn = record {
        reached = ap reported leads ∙ sym is;
        settled = λ shorter. well;
        short = let room = walk.short in omega arith;
        numbers = walk.numbers (λ i d low. absurd (omega arith));
      };
      final = λ q. well;
      cut = λ q. absurd (cc);
    }
drawn_of code k most w v (Ok true) s end first walked lacks final long is =
    let walk = went true k w v [] s most walked in
    let leads : core code k s ≡ Ok v = walk.leads code (start code k w first) in
    let full = (long refl).0 in
    record {
      drawn = record {
        reached = ap reported leads ∙ sym is;
        settled = λ shorter. absurd (omega arith);
        short = let room = walk.short in omega arith;
        numbers = walk.numbers (λ i d low. absurd (omega arith));
      };
      final = λ q. absurd (cc);
      cut = λ q. record { long = full; unended = unended_so v end is (long refl).1 };
    }
drawn_of code k most w v (Err e) s end first walked lacks final long is = elim walked [
  | inl q ↦ absurd (lacks q)
  | inr walk ↦
      let leads : core code k s ≡ Err e = walk.leads code (start code k w first) in
      let well : IsReached code k record { schedule = s; end = end } = record {
        reached = ap reported leads ∙ sym is;
        settled = subst (λ (x : Result World RunError). IfOk x (Stays k)) (sym leads) tt;
      } in
      record {
        drawn = record {
          reached = ap reported leads ∙ sym is;
          settled = λ shorter. well;
          short = let room = walk.short in omega arith;
          numbers = walk.numbers (λ i d low. absurd (omega arith));
        };
        final = λ q. well;
        cut = λ q. absurd (cc);
      }
]

-- a property of all elements, with one more element at the front
head_or : {A : Type 0} (P : A → Type 0) (x : A) (xs : List A) → P x → All P xs → (i : ℕ) (y : A) → slice_get (x ∷ xs) i ≡ Some y → P y
head_or P x xs p h zero y e = subst P (same_Some x y e) p
head_or P x xs p h (suc i) y e = all_at P xs i y e h

pub sampled_more : (code : Tree) (k : Limits) (most n : ℕ) (cs : List Coming) (a : Drawn) (ds : List Coming) → IsSampleOf code k most n cs →
    IsDrawing code k most a → IsNoted cs a ds → IsSampleOf code k most (n + 1) ds
sampled_more code k most n cs a ds sample drawn noted = record {
  drawn = a ∷ sample.drawn;
  many = let many = sample.many in omega arith;
  each = all_from (IsDrawing code k most) (a ∷ sample.drawn) (head_or (IsDrawing code k most) a sample.drawn drawn sample.each);
  tally = tallied sample.drawn cs a ds sample.tally noted;
}

pub nothing_sampled : (code : Tree) (k : Limits) (most : ℕ) → IsSampleOf code k most 0 []
nothing_sampled code k most = record { drawn = []; many = refl; each = λ i d low. absurd (omega arith); tally = nothing_tallied }

-- ---- answers that were cut short, and the others
module _ (code : Tree) (k : Limits) (most n : ℕ) (cs : List Coming) (sample : IsSampleOf code k most n cs) where
  pub final_told : All (λ (c : Coming). c.cut ≡ false → StaysSo code k c.answer.end) cs
  final_told = all_from (λ (c : Coming). c.cut ≡ false → StaysSo code k c.answer.end) cs (λ i c at q.
      let h = sample.tally.uncut i c at q in
      record { answer = h.1.answer; ends = h.3; reached = (all_at (IsDrawing code k most) sample.drawn h.0 h.1 h.2 sample.each).final h.4 })

  pub cut_told : All (λ (c : Coming). c.cut ≡ true → IsCutShort most c.answer) cs
  cut_told = all_from (λ (c : Coming). c.cut ≡ true → IsCutShort most c.answer) cs (λ i c at q.
      let h = sample.tally.firsts i c at in
      let short = sample.tally.cut i c at q h.place h.one h.here (ap (λ (a : Answer). a.end) h.answer) in
      subst (IsCutShort most) h.answer ((all_at (IsDrawing code k most) sample.drawn h.place h.one h.here sample.each).cut short))
