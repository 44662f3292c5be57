-- Schedules that are drawn one after another, with the claims that are met on their way.
use Rattle.std.proofs.Common.{◌≡◌, ℕ, zero, suc, ◌+◌, List, [], ◌∷◌, sym, subst, arith, refl}
use Rattle.std.specs.Prelude.{Some}
use Rattle.std.specs.List.{slice_get}
use Rattle.std.proofs.lemmas.List.Elements.{All-cons}
use Rattle.std.proofs.lemmas.Option.{same_Some}
use Rattle.derived_ops.specs.Tree.{Tree}
use Rattle.cell_registry.specs.declared.limits.Limits.{Limits}
use Rattle.world_search.specs.declared.claims.Met.{Met}
use Rattle.world_search.specs.Claims.{IsFound}
use Rattle.world_search.specs.Lists.{IsMore}
use Rattle.world_search.proofs.Lists.{more_in}
use Rattle.every_schedule.specs.declared.claims.ClaimWord.{ClaimWord}
use Rattle.every_schedule.specs.Claims.{MeetsOnTheWay}
use Rattle.sampled_schedules.specs.declared.comings.Drawn.{Drawn}
use Rattle.sampled_schedules.specs.Sampled.{IsDrawing}
use Rattle.sampled_schedules.specs.Claims.{IsMetByNone, LooksThrough}

found_in : (i : ℕ) (old new : List Met) → IsMore old new → IsFound i old → IsFound i new
found_in i old new more f = (f.0, more_in old new f.0 more f.1, f.2)

module _ (code : Tree) (k : Limits) (most : ℕ) (claims : List (List ClaimWord)) where
  -- nothing is drawn yet
  pub looks_none : (met : List Met) → LooksThrough code k most 0 claims met
  looks_none met = record { drawn = []; many = refl; each = λ i d low. absurd (omega arith); unmet = λ i words is none j d at. absurd (cc) }

  unmet_more : (old new : List Met) (d : Drawn) (drawn : List Drawn) →
      ((i : ℕ) (words : List ClaimWord) → slice_get claims i ≡ Some words → (IsFound i old → ⊥) → IsMetByNone code k drawn words) →
      IsMore old new →
      ((i : ℕ) (words : List ClaimWord) → slice_get claims i ≡ Some words → MeetsOnTheWay code k words d.answer.schedule → IsFound i new) →
      (i : ℕ) (words : List ClaimWord) → slice_get claims i ≡ Some words → (IsFound i new → ⊥) → (j : ℕ) (e : Drawn) →
      slice_get (d ∷ drawn) j ≡ Some e → MeetsOnTheWay code k words e.answer.schedule → ⊥
  unmet_more old new d drawn before more looked i words is none zero e at m =
      none (looked i words is (subst (λ (x : Drawn). MeetsOnTheWay code k words x.answer.schedule) (sym (same_Some d e at)) m))
  unmet_more old new d drawn before more looked i words is none (suc j) e at m =
      before i words is (λ f. none (found_in i old new more f)) j e at m

  -- one more schedule is drawn
  pub looks_more : (times : ℕ) (old new : List Met) (d : Drawn) → LooksThrough code k most times claims old → IsDrawing code k most d →
      IsMore old new →
      ((i : ℕ) (words : List ClaimWord) → slice_get claims i ≡ Some words → MeetsOnTheWay code k words d.answer.schedule → IsFound i new) →
      LooksThrough code k most (times + 1) claims new
  looks_more times old new d before drawing more looked = record {
    drawn = d ∷ before.drawn;
    many = let many = before.many in omega arith;
    each = All-cons (IsDrawing code k most) d before.drawn drawing before.each;
    unmet = unmet_more old new d before.drawn before.unmet more looked;
  }
