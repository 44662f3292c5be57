-- How a fiber goes on depends neither on its marks nor on the numbers of its masks.
use Rattle.fiber_frames.proofs.Prelude.{◌≡◌, ◌≢◌, ℕ, suc, ◌+◌, Bool, true, false, if◌then◌else◌, nat_eq, List, [], ◌∷◌, ◌++◌, length, refl, sym, ap, ◌∙◌, subst}
use Rattle.fiber_frames.proofs.Prelude.{eq-eqb, Put, mask_at, Mask, Pair, Tree, Reply, Running, Runs, Born, RowKind, Fiber, Looks, Move_case, ask_of, begins}
use Rattle.fiber_frames.proofs.Prelude.{child, move, move_case, move_in, outcome_of, term_born, Reached, masks_of, masks_on, number_to, own_place, place_in}
use Rattle.fiber_frames.proofs.Prelude.{placed_in, renumbered, run_renumbered, run_unmarked, unmarked}
use Rattle.fiber_frames.specs.Fiber.{kind_of, outcome_in}
use Rattle.fiber_frames.proofs.Marks.Cutting.{Static}
use Rattle.fiber_frames.proofs.Marks.Runs.{LiveRun, live_run}
use Rattle.fiber_frames.proofs.Reaching.{reached_kept}
use Rattle.fiber_frames.proofs.Renumbering.{Each, IsKept, kind_renumbered}
use Rattle.fiber_frames.proofs.RenumberedMoves.{fiber_to, onward, same_ask, same_kind}
use Rattle.fiber_frames.proofs.Composing.{both, run_twice, same_to, twice}
use Rattle.fiber_frames.proofs.Placing.{Faithful, HasPlace, all_placed, each_map, faithful_kept, place_last, place_other, placed_faithful, same_unmarked}
use Rattle.fiber_frames.proofs.Freshness.{Fresh, each_own, next_free, past_free, past_fresh, past_in, reached_fresh}
use Rattle.fiber_frames.proofs.MoveSpines.{child_static, move_on}
use Rattle.fiber_frames.proofs.Spines.{static_on}

-- each mask on the path is told from all others by its place
placed_masks : (i : ℕ) (ms : List ℕ) → Each (Faithful i (own_place i ms)) ms
placed_masks i ms = each_map (HasPlace ms) (Faithful i (own_place i ms)) (λ a h. placed_faithful i ms a h) ms (all_placed ms)

-- twice is once
pub unmarked_twice : (f : Fiber) → unmarked (unmarked f) ≡ unmarked f
unfolding unmarked
unmarked_twice f = same_unmarked f (unmarked f) (own_place f.number (masks_of f.running)) (placed_masks f.number (masks_of f.running)) refl refl refl

-- the outcome stays
pub unmarked_outcome : (f : Fiber) → outcome_of (unmarked f) ≡ outcome_of f
unfolding unmarked
unmarked_outcome f = go f.running (placed_in f.number (masks_of f.running))
  where
    go : (w : Running) (to : ℕ → ℕ → Mask) → outcome_in (run_renumbered f.number to w) ≡ outcome_in w
    go (Runs t) to = refl
    go _ to = refl

module _ (f : Fiber) (live : LiveRun f.running) (fresh : Fresh f.number f.next f.running) where
  abbrev i : ℕ
  i = f.number

  abbrev ms : List ℕ
  ms = masks_of f.running

  -- the masks on the path, and the next one
  abbrev all : List ℕ
  all = ms ++ f.next ∷ []

  abbrev number : ℕ → ℕ → ℕ
  number = own_place i all

  abbrev to : ℕ → ℕ → Mask
  to = placed_in i all

  closed : (p : Put) (g m : ℕ) → mask_at p (to g m) ≡ to g m
  closed p g m = refl

  faithful_all : Each (Faithful i number) all
  faithful_all = placed_masks i all

  split : (P : ℕ → Type 0) (xs : List ℕ) (n : ℕ) → Each P (xs ++ n ∷ []) → Each P xs × P n
  split P [] n h = (tt, h.0)
  split P (x ∷ xs) n h = let rest = split P xs n h.1 in ((h.0, rest.0), rest.1)

  faithful_on : Each (Faithful i number) ms
  faithful_on = (split (Faithful i number) ms f.next faithful_all).0

  faithful_next : Faithful i number f.next
  faithful_next = (split (Faithful i number) ms f.next faithful_all).1

  kept_on : Each (λ m. IsKept i to closed (Pair i m)) ms
  kept_on = each_map (Faithful i number) (λ m. IsKept i to closed (Pair i m)) (λ a h. faithful_kept i number a h) ms faithful_on

  -- the place of the next one is the next number
  fits : to i f.next ≡ Pair i (suc (length ms))
  fits =
      ap (λ (t : Bool). Pair i (if t then place_in all f.next else 0)) (eq-eqb i i refl)
      ∙ ap (Pair i) (place_last ms f.next (next_free i f.next f.running fresh))

  -- without marks it is the same, with the places for numbers
  same_running : run_unmarked i f.running ≡ run_renumbered i to f.running
  same_running =
      let past = each_own (past_in i f.next) in
      ap (run_renumbered i (placed_in i ms)) (sym (past_fresh i f.next f.running fresh))
      ∙ run_twice i i past (placed_in i ms) (λ m. refl) f.running
      ∙ ap (λ (t : ℕ → ℕ → Mask). run_renumbered i t f.running) (same_to (both i i past (placed_in i ms)) (both i i past to) agree)
      ∙ sym (run_twice i i past to (λ m. refl) f.running)
      ∙ ap (run_renumbered i to) (past_fresh i f.next f.running fresh)
    where
      agree : (g m : ℕ) → placed_in i ms g (past_in i f.next g m) ≡ placed_in i all g (past_in i f.next g m)
      agree g m = ap (Pair i) (go (nat_eq g i) refl)
        where
          go : (t : Bool) → nat_eq g i ≡ t → ◌≡◌ {A = ℕ} (if t then place_in ms (past_in i f.next g m) else 0) (if t then place_in all (past_in i f.next g m) else 0)
          go true e =
              let here : past_in i f.next g m ≢ f.next = subst (λ (x : ℕ). past_in i f.next x m ≢ f.next) (sym (Rattle.std.proofs.lemmas.Bool.eqb-true g i e)) (past_free i f.next m) in
              sym (place_other ms f.next (past_in i f.next g m) here)
          go false e = refl

  there : unmarked f ≡ fiber_to to (suc (length ms)) f
  unfolding unmarked
  there = ap (λ (w : Running). record { number = i; running = w; look = f.look; next = suc (length ms); marks = [] }) same_running

  pub unmarked_ask : ask_of (unmarked f) ≡ ask_of f
  unmarked_ask = ap ask_of there ∙ same_ask f to (suc (length ms)) closed (λ m. refl) kept_on fits

  pub unmarked_kind : (r : Reply) → kind_of (unmarked f) r ≡ kind_renumbered (renumbered i to) (kind_of f r)
  unmarked_kind r = ap (λ (g : Fiber). kind_of g r) there ∙ same_kind f to (suc (length ms)) closed (λ m. refl) kept_on fits r

  same_number : (r : Reply) (c : Move_case) → (move_in f r c).number ≡ i
  same_number r Looks = refl
  same_number r _ = refl

  pub unmarked_move : (r : Reply) → unmarked (move (unmarked f) r) ≡ unmarked (move f r)
  unmarked_move r =
      let on = onward f to (suc (length ms)) closed (λ m. refl) kept_on r (λ e. fits) in
      let masks = move_on (Faithful i number) f r live faithful_next faithful_on in
      let own : (move f r).number ≡ i = same_number r (move_case f) in
      ap (λ (g : Fiber). unmarked (move g r)) there
      ∙ same_unmarked (move f r) (move (fiber_to to (suc (length ms)) f) r) number
      (subst (λ (x : ℕ). Each (Faithful x number) (masks_of (move f r).running)) (sym own) masks)
      on.number
      (on.running ∙ ap (λ (x : ℕ). run_renumbered x (λ g m. Pair x (number g m)) (move f r).running) (sym own))
      on.look

  -- ---- what it starts
  none_placed : (c g m : ℕ) → own_place c [] g m ≡ 0
  none_placed c g m = elim (nat_eq g c) as (λ t. ◌≡◌ {A = ℕ} (if t then 0 else 0) 0) [ true ↦ refl | false ↦ refl ]

  term_unmarked : (c : ℕ) (e : Tree) → renumbered c (placed_in c []) (renumbered i to e) ≡ renumbered c (placed_in c []) e
  term_unmarked c e =
      twice i c to (placed_in c []) (λ m. none_placed c c (number_to i to m) ∙ sym (none_placed c i (number i m))) e
      ∙ ap (λ (t : ℕ → ℕ → Mask). renumbered c t e) (same_to (both i c to (placed_in c [])) (placed_in c [])
      (λ g m. ap (Pair c) (none_placed c i (number g m) ∙ sym (none_placed c g m))))

  begins_unmarked : (c : ℕ) (e : Tree) → Static e → unmarked (begins c (renumbered i to e)) ≡ unmarked (begins c e)
  unfolding unmarked
  begins_unmarked c e h =
      let none : masks_on e ≡ [] = static_on e h in
      let none' : masks_on (renumbered i to e) ≡ [] = Rattle.fiber_frames.proofs.Composing.masks_on_to i to e ∙ ap (Rattle.std.proofs.Common.map (number_to i to)) none in
      let make : List ℕ → Running → Fiber = λ l w. record { number = c; running = w; look = Rattle.fiber_frames.specs.declared.ask.Look.TheVariants.Due; next = suc (length l); marks = [] } in
      ap (λ (l : List ℕ). make l (Runs (renumbered c (placed_in c l) (renumbered i to e)))) none'
      ∙ ap (λ (t : Tree). make [] (Runs t)) (term_unmarked c e)
      ∙ ap (λ (l : List ℕ). make l (Runs (renumbered c (placed_in c l) e))) (sym none)

  born_to : (k : RowKind) → term_born (kind_renumbered (renumbered i to) k) ≡ renumbered i to (term_born k)
  born_to (Born e) = refl
  born_to _ = refl

  pub unmarked_child : (n : ℕ) → unmarked (child (unmarked f) n) ≡ unmarked (child f n)
  unmarked_child n =
      ap (λ (t : Tree). unmarked (begins n t)) (ap term_born (unmarked_kind (Reply.Number n)) ∙ born_to (kind_of f (Reply.Number n)))
      ∙ begins_unmarked n (term_born (kind_of f (Reply.Number n))) (child_static f n live)

-- ---- a fiber that is reached
module _ (f : Fiber) (h : Reached f) where
  live_here : LiveRun f.running
  live_here = live_run f (reached_kept f h).holds

  pub ask_unmarked : ask_of (unmarked f) ≡ ask_of f
  ask_unmarked = unmarked_ask f live_here (reached_fresh f h)

  pub move_unmarked : (r : Reply) → unmarked (move (unmarked f) r) ≡ unmarked (move f r)
  move_unmarked = unmarked_move f live_here (reached_fresh f h)

  pub child_unmarked : (n : ℕ) → unmarked (child (unmarked f) n) ≡ unmarked (child f n)
  child_unmarked = unmarked_child f live_here (reached_fresh f h)
