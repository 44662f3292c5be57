-- Where schedules lead, by the numbers of a table.
use Rattle.std.proofs.Common.{◌≡◌, ◌≢◌, ℕ, ◌+◌, ◌<◌, ◌≤◌, List, [], ◌++◌, length, get_or, take, Some, Result, Ok, Err, refl, sym, ap, ◌∙◌, subst, arith}
use Rattle.std.{proofs.lemmas.{Bool.cases_order, List.Sums.fold_more, Option.same_Some}, specs.List.slice_get}
use mathlib.Core.Logic.{◌⊎◌, inl, inr}
use Rattle.world_search.{specs.{Lists.IsIn, Systems.{entered, run}}, proofs.{Closed.run-append, Lists.get_low}}
use Rattle.fair_ends.specs.{declared.table.{Edge.Edge, Row.Row}, Private.Tables.{fault, IsEdge, IsRow, IsStill, LandsOn, LeadsToWorld}}

module _ {W E : Type 0} (entry : W → ℕ → Result W E) (Free : W → ℕ → Type 0) (step : W → ℕ → Result W E) (most : ℕ) (ws : List W) where
  -- a result at the number of a world is that world
  pub world_at : (t : ℕ) (y : Result W E) → LandsOn ws t y → t ≢ fault → (w : W) × (slice_get ws t ≡ Some w) × (y ≡ Ok w)
  world_at t (Ok x) on isnt = (x, on.0, refl)
  world_at t (Err e) on isnt = absurd (isnt on)

  -- it is the world that has this number
  pub lands_at : (t : ℕ) (y : Result W E) (w : W) → LandsOn ws t y → t ≢ fault → slice_get ws t ≡ Some w → y ≡ Ok w
  lands_at t y w on isnt at = let to = world_at t y on isnt in to.2 ∙ ap Ok (same_Some to.0 w (sym to.1 ∙ at))

  -- if the step of a fiber makes no entry of that fiber, or that entry alone and leads back, the entry changes nothing
  pub still : (t f : ℕ) (w : W) (e : Edge) → IsEdge entry Free step most ws w f e → slice_get ws t ≡ Some w → t ≢ fault → IsStill t f e → entry w f ≡ Ok w
  still t f w e is at isnt (inl none) = is.makes.still none
  still t f w e is at isnt (inr alone) =
      ap (run entry (Ok w)) (sym alone.0) ∙ is.makes.leads ∙ lands_at t (step w f) w (subst (λ k. LandsOn ws k (step w f)) alone.1 is.lands) isnt at

  -- each fiber has an entry, or its entry changes nothing
  pub fair_at : (row : Row) (begins : ℕ) (cycle : List ℕ) (w : W) → IsRow entry Free step most ws w row → slice_get ws begins ≡ Some w → begins ≢ fault →
      ((f : ℕ) (e : Edge) → slice_get row.edges.items f ≡ Some e → IsIn f cycle ⊎ IsStill begins f e) → (f : ℕ) →
      IsIn f cycle ⊎ (entry w f ≡ Ok w)
  fair_at row begins cycle w row_is at isnt each f = by (cases_order f (length row.edges.items))
    where
      past : length row.edges.items ≤ f → IsIn f cycle ⊎ (entry w f ≡ Ok w)
      past over = inr ((row_is.rests f over).still (λ i. let no : slice_get [] i.0 ≡ Some f = i.1 in cc))

      here : (e : Edge) → slice_get row.edges.items f ≡ Some e → IsIn f cycle ⊎ IsStill begins f e → IsIn f cycle ⊎ (entry w f ≡ Ok w)
      here e is (inl there) = inl there
      here e is (inr back) = inr (still begins f w e (row_is.each f e is) at isnt back)

      by : (f ≡ length row.edges.items) ⊎ ((f < length row.edges.items) ⊎ (length row.edges.items < f)) → IsIn f cycle ⊎ (entry w f ≡ Ok w)
      by (inl same) = past (omega arith)
      by (inr (inl less)) = let e = get_low row.edges.items f less in here e.0 e.1 (each f e.0 e.1)
      by (inr (inr more)) = past (omega arith)

  -- the entries of one more step
  pub walk_next : (at f : ℕ) (entries : List ℕ) (row : Row) (e : Edge) (w : W) → at ≢ fault → LandsOn ws at (run entry (Ok w) entries) →
      ((x : W) → slice_get ws at ≡ Some x → IsRow entry Free step most ws x row) → slice_get row.edges.items f ≡ Some e →
      LandsOn ws e.target (run entry (Ok w) (entries ++ e.made.items))
  walk_next at f entries row e w isnt on rows is =
      let to = world_at at (run entry (Ok w) entries) on isnt in
      let edge = (rows to.0 to.1).each f e is in
      subst (LandsOn ws e.target)
      (sym (run-append entry (Ok w) entries e.made.items ∙ ap (λ x. run entry x e.made.items) to.2 ∙ edge.makes.leads)) edge.lands

  -- one more entry, made alone
  pub alone_next : (vs us : List W) (first : W) (s : List ℕ) (i at to f : ℕ) → i < length s → f ≡ get_or s i 0 → LeadsToWorld entry vs first (take i s) at →
      ((w : W) → slice_get vs at ≡ Some w → (x : W) × (slice_get us to ≡ Some x) × (entry w f ≡ Ok x)) → LeadsToWorld entry us first (take (i + 1) s) to
  alone_next vs us first s i at to f low is led next =
      let on = next led.0 led.1 in (
        on.0,
        on.1,
        fold_more (entered entry) (Ok first) s i 0 low ∙ ap (λ x. entered entry x (get_or s i 0)) led.2 ∙
            subst (λ k. entry led.0 k ≡ Ok on.0) is on.2,
      )
