-- One entry of a search: what it adds, and where it leads.
use Rattle.std.proofs.{Common.{◌≡◌, ℕ, ◌<◌, List, length, Some, Result, Ok, Err, refl, sym, subst, arith, inl, inr}, lemmas.Option.slice_get_within}
use Rattle.std.specs.List.{slice_get}
use Rattle.world_search.specs.{declared.graphs.{Node.Node, Edge.Edge}, Landings.LandsAt, Private.Shapes.{Shape, with_edge, Keeps, Notes, IsNotedIn}}
use Rattle.world_search.{specs.Private.Graphs.{CanEnter, IsEntry, IsTold, IsMet, Leaves, Fits, Grows, ComesTo}, proofs.Lists.{get_last, get_low}}
use Rattle.world_search.proofs.Fitting.{grows_same, grows_node, fits_node, fits_edge, fits_noted}
use Rattle.world_search.specs.declared.landings.Landing.TheVariants as to
use Rattle.world_search.specs.declared.expanding.Came.TheVariants as came

module _ {W E R : Type 0} (step : W → ℕ → Result W E) (report : W → R) (most longest : ℕ) (ws : List W) (es : List E) where
  -- the entry of this node leads to world number j
  abbrev pub Lands : Node → ℕ → Type 0
  Lands n j = (w : W) → slice_get ws n.from ≡ Some w → LandsAt ws es (to.World j) (step w n.fiber)

  module _ (s t : Shape) (n : Node) (j : ℕ) (h : Fits step report most longest ws es s) (low : n.from < length s.nodes) (lands : Lands n j) where
    -- the world at which the entry is made
    pub its_world : (w : W) × (slice_get ws n.from ≡ Some w)
    its_world = let k = h.known in get_low ws n.from (omega arith)

    pub its_next : (x : W) × (slice_get ws j ≡ Some x)
    its_next = let l = lands its_world.0 its_world.1 in (l.0, l.1)

    pub low_next : j < length ws
    low_next = slice_get_within ws j its_next.0 its_next.1

    pub kept_fits : CanEnter most longest s.nodes n → Keeps s t n j → Fits step report most longest ws es t
    kept_fits how keeps = elim keeps [
      | inl same ↦ subst (Fits step report most longest ws es) (sym same) h
      | inr next ↦
          let l = lands its_world.0 its_world.1 in
          let there : slice_get ws (length s.nodes) ≡ Some l.0 = subst (λ i. slice_get ws i ≡ Some l.0) next.0 l.1 in
          let entry : IsEntry step report most longest ws es s.nodes n (Ok l.0) = record { how = how; world = its_world.0; at = its_world.1; leads = l.2 } in
          subst (Fits step report most longest ws es) (sym next.1) (fits_node step report most longest ws es s h n l.0 there entry)
    ]

    pub kept_grows : Keeps s t n j → Grows ws ws es es s t
    kept_grows keeps = elim keeps [
      | inl same ↦ subst (Grows ws ws es es s) (sym same) (grows_same ws es s)
      | inr next ↦ subst (Grows ws ws es es s) (sym next.1) (grows_node ws es s n)
    ]

  -- an entry that is kept, and leads to a world that is kept
  module _ (t : Shape) (n : Node) (j : ℕ) (h : Fits step report most longest ws es t) (low : n.from < length t.nodes) (near : j < length t.nodes)
      (lands : Lands n j) where
    pub edge_fits : Fits step report most longest ws es (with_edge t (record { from = n.from; to = j }))
    edge_fits =
        let k = h.known in
        let w = get_low ws n.from (omega arith) in
        let l = lands w.0 w.1 in
        fits_edge step report most longest ws es t h (record { from = n.from; to = j })
        (record { low = (low, near); world = w.0; next = l.0; fiber = n.fiber; at = w.1; to = l.1; leads = l.2 })

    pub edge_stays : ((v w : W) → slice_get ws n.from ≡ Some v → slice_get ws j ≡ Some w → report v ≡ report w) → (w : W) → slice_get ws n.from ≡ Some w
        → ComesTo step report most longest ws es (with_edge t (record { from = n.from; to = j })) n.from w came.Stays (step w n.fiber)
    edge_stays same w at =
        let l = lands w at in
        let e : Edge = record { from = n.from; to = j } in (
          subst (IsMet step report most longest ws es (with_edge t e)) (sym l.2) (j, near, l.1),
          inr (length t.edges, e, l.0, get_last t.edges e, refl, l.1, l.2, sym (same w l.0 at l.1)),
        )

  -- an entry that ends in a fault
  module _ (s t : Shape) (n : Node) (j : ℕ) (h : Fits step report most longest ws es s) (low : n.from < length s.nodes)
      (how : CanEnter most longest s.nodes n) (lands : (w : W) → slice_get ws n.from ≡ Some w → LandsAt ws es (to.Fault j) (step w n.fiber))
      (notes : Notes s t j n) where
    pub noted_fits : Fits step report most longest ws es t
    noted_fits = elim notes [
      | inl old ↦ subst (Fits step report most longest ws es) (sym old.1) h
      | inr new ↦
          let k = h.known in
          let w = get_low ws n.from (omega arith) in
          let l = lands w.0 w.1 in
          let entry : IsEntry step report most longest ws es s.nodes n (Err l.0) = record { how = how; world = w.0; at = w.1; leads = l.2 } in
          subst (Fits step report most longest ws es) (sym new.1)
          (fits_noted step report most longest ws es s h (record { fault = j; node = n }) (record { why = l.0; at = l.1; entry = entry }) new.0)
    ]

    noted_in : IsNotedIn t.noted j
    noted_in = elim notes [
      | inl old ↦ subst (λ (r : Shape). IsNotedIn r.noted j) (sym old.1) old.0
      | inr new ↦ subst (λ (r : Shape). IsNotedIn r.noted j) (sym new.1) (
        length s.noted,
        record { fault = j; node = n },
        get_last s.noted (record { fault = j; node = n }),
        refl,
      )
    ]

    told_at : (e : E) → slice_get es j ≡ Some e → IsTold step report most longest ws es t e
    told_at e at = let k = noted_in in (k.0, k.1, k.2, subst (λ i. slice_get es i ≡ Some e) (sym k.3) at)

    pub noted_leaves : (w : W) → slice_get ws n.from ≡ Some w →
        ComesTo step report most longest ws es t n.from w came.Leaves (step w n.fiber)
    noted_leaves w at =
        let l = lands w at in (
          subst (IsMet step report most longest ws es t) (sym l.2) (told_at l.0 l.1),
          subst (Leaves step report most longest ws es w) (sym l.2) tt,
        )
