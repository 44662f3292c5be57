-- The entries of persistent sets get as far as all entries.
use Rattle.std.proofs.Common.{◌≡◌, ◌<◌, ◌≤◌, ℕ, zero, suc, Bool, true, false, not, ◌&&◌, ◌||◌, List, [], ◌∷◌, length}
use Rattle.std.proofs.Common.{Option, Some, None, Result, Ok, Err, refl, ap, ◌∙◌, subst, arith}
use Rattle.cell_registry.specs.declared.limits.RunError.{RunError}
use Rattle.world_search.specs.Chosen.{IsChosen, IsPart}
use Rattle.world_search.specs.Chosen.IsChosen.{Part, Whole}
use Rattle.world_search.specs.Free.{Reduces}
use Rattle.world_search.proofs.Chosen as search
use Rattle.every_schedule.specs.declared.leaping.AtOnce.{AtOnce}
use Rattle.every_schedule.specs.Persistent.{best, chosen, chosen_if, in_set, is_entered, is_lighter, is_member, is_persistent}
use Rattle.every_schedule.specs.Persistent.{pick, picked_by, set_if, set_of, weight_at}
use Rattle.every_schedule.specs.Places.{Place, stepped}
use Rattle.every_schedule.specs.Reduced.{IsMade, is_made, leapt}
use Rattle.every_schedule.proofs.Apart.{Stands, apart, stands_now}
use Rattle.every_schedule.proofs.EarlyMoves.{made_early}
use Rattle.every_schedule.proofs.Leaps.{leaps, leapt_rests}
use Rattle.every_schedule.proofs.OwnKept.{below_true, both_true}
use Rattle.every_schedule.proofs.Seeds.{best_low, seed_in, set_many}

-- a flag of the set is that of a born fiber
in_low : (s : List Bool) (f : ℕ) → in_set s f ≡ true → f < length s
in_low [] f e = absurd (cc)
in_low (t ∷ s) zero e = omega arith
in_low (t ∷ s) (suc f) e = let low = in_low s f e in omega (arith, low)

-- ---- what a choice shows
set_so : (b : Bool) (s t : List Bool) → set_if b s ≡ Some t → (b ≡ true) × (s ≡ t)
set_so true s t e = (refl, cc)
set_so false s t e = absurd (cc)

lighter_so : (m : ℕ) (y : Result Place RunError) → is_lighter m y ≡ true → (q : Place) × (y ≡ Ok q) × (weight_at q < m)
lighter_so m (Ok q) e = (q, refl, below_true (weight_at q) m e)
lighter_so m (Err d) e = absurd (cc)

module _ (n : AtOnce) (p : Place) where
  -- all entries are made
  whole : ((f : ℕ) → is_entered n p f ≡ true) → IsChosen stepped (leapt n) (chosen n) weight_at p
  whole all = Whole (λ f. ap (λ b. chosen_if b n p f) (all f))

  part_of : n.chosen ≡ true → (seed : ℕ) (s : List Bool) → best p.world (length p.world.fibers) ≡ Some seed → pick n p ≡ Some s →
      picked_by n p (Some seed) ≡ Some s → IsPart stepped (leapt n) (chosen n) weight_at p
  part_of flag seed s found is by =
      let w = p.world in
      let b = is_persistent w (set_of w seed) && is_lighter (weight_at p) (leapt n p seed) in
      let it = set_so (not (is_made n w seed) && b) (set_of w seed) s by in
      let rest = both_true (not (is_made n w seed)) b it.0 in
      let both = both_true (is_persistent w (set_of w seed)) (is_lighter (weight_at p) (leapt n p seed)) rest.1 in
      let led = lighter_so (weight_at p) (leapt n p seed) both.1 in
      let low = best_low w (length w.fibers) seed found in
      let entered = λ (f : ℕ). ap (λ c. not c || is_member (pick n p) f) flag ∙ ap (λ o. is_member o f) is in
      let many = set_many w seed in
      record {
        T = in_set s;
        Holds = Stands s;
        apart = apart s;
        holds = stands_now p s (subst (λ l. is_persistent w l ≡ true) it.1 both.0)
            (λ f mine. let small = in_low s f mine in let same = ap (λ (l : List Bool). length l) it.1 in omega (arith, small, same, many));
        made = λ f mine. ap (λ b. chosen_if b n p f) (entered f ∙ mine);
        others = λ f out. ap (λ b. chosen_if b n p f) (entered f ∙ out);
        seed = seed;
        in_it = subst (λ l. in_set l seed ≡ true) it.1 (seed_in w seed low);
        next = led.0;
        goes = led.1;
        smaller = led.2;
      }

  by_seed : n.chosen ≡ true → (s : List Bool) → pick n p ≡ Some s → (o : Option ℕ) → best p.world (length p.world.fibers) ≡ o → picked_by n p o ≡ Some s →
      IsChosen stepped (leapt n) (chosen n) weight_at p
  by_seed flag s is None found by = absurd (cc)
  by_seed flag s is (Some seed) found by = Part (part_of flag seed s found is by)

  by_set : n.chosen ≡ true → (o : Option (List Bool)) → pick n p ≡ o → IsChosen stepped (leapt n) (chosen n) weight_at p
  by_set flag None is = whole (λ f. ap (λ c. not c || is_member (pick n p) f) flag ∙ ap (λ o. is_member o f) is)
  by_set flag (Some s) is = by_seed flag s is (best p.world (length p.world.fibers)) refl is

  by_flag : (b : Bool) → n.chosen ≡ b → IsChosen stepped (leapt n) (chosen n) weight_at p
  by_flag true flag = by_set flag (pick n p) refl
  by_flag false flag = whole (λ f. ap (λ c. not c || is_member (pick n p) f) flag)

  choice : IsChosen stepped (leapt n) (chosen n) weight_at p
  choice = by_flag n.chosen refl

pub chosen_reduces : (n : AtOnce) → Reduces stepped (chosen n)
chosen_reduces n = search.chosen_reduces stepped (IsMade n) (made_early n) (leapt n) (chosen n) weight_at (leaps n) (choice n)

-- ---- entries of fibers that aren't born
rests_if : (b : Bool) (n : AtOnce) (p : Place) (f : ℕ) → length p.world.fibers ≤ f → chosen_if b n p f ≡ Ok p
rests_if true n p f past = leapt_rests n p f past
rests_if false n p f past = refl

pub chosen_rests : (n : AtOnce) (p : Place) (f : ℕ) → length p.world.fibers ≤ f → chosen n p f ≡ Ok p
chosen_rests n p f past = rests_if (is_entered n p f) n p f past
