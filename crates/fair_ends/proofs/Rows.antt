-- Rows of a table, as worlds are added.
use Rattle.std.proofs.Common.{◌≡◌, ℕ, ◌+◌, ◌<◌, ◌≤◌, List, [], ◌∷◌, ◌++◌, length, Some, Result, Ok, Err, sym, ◌∙◌, subst, arith, length-append}
use Rattle.std.{proofs.lemmas.Option.slice_get_within, specs.List.slice_get}
use mathlib.Core.Logic.{inl, inr}
use Rattle.world_search.{specs.{Landings.EntersAt, declared.landings.Entered.Entered, Lists.IsMore}, proofs.Lists.{get_end, more_back, more_get}}
use Rattle.fair_ends.specs.{declared.table.{Edge.Edge, Row.Row}, Fair.Makes, Private.Tables.{IsTarget, LandsOn, AreEdges, IsEdge, IsRow, AreRows}}
use Rattle.world_search.specs.declared.landings.Landing.TheVariants as to
use Rattle.world_search.specs.declared.landings.Entered.TheVariants as came

module _ {W E : Type 0} (entry : W → ℕ → Result W E) (Free : W → ℕ → Type 0) (step : W → ℕ → Result W E) (most : ℕ) where
  pub lands_on : (ws : List W) (es : List E) (it : Entered) (t : ℕ) (y : Result W E) → IsTarget it t → EntersAt ws es it y → LandsOn ws t y
  lands_on ws es (came.At (to.World j)) t y is at =
      subst (LandsOn ws t) (sym at.2) (subst (λ k. slice_get ws k ≡ Some at.0) (sym is.0) at.1, omega arith)
  lands_on ws es (came.At (to.Fault j)) t y is at = subst (LandsOn ws t) (sym at.2) is
  lands_on ws es came.Full t y is at = absurd is

  pub lands_more : (ws vs : List W) (t : ℕ) (y : Result W E) → IsMore ws vs → LandsOn ws t y → LandsOn vs t y
  lands_more ws vs t (Ok x) more on = (more_get ws vs t x more on.0, on.1)
  lands_more ws vs t (Err e) more on = on

  edge_more : (ws vs : List W) (w : W) (f : ℕ) (e : Edge) → IsMore ws vs → IsEdge entry Free step most ws w f e → IsEdge entry Free step most vs w f e
  edge_more ws vs w f e more h = record { lands = lands_more ws vs e.target (step w f) more h.lands; makes = h.makes }

  pub edges_more : (ws vs : List W) (n : ℕ) (w : W) (edges : List Edge) → IsMore ws vs → AreEdges entry Free step most ws n w edges →
      AreEdges entry Free step most vs n w edges
  edges_more ws vs n w edges more h = (h.0, λ f e at. edge_more ws vs w f e more (h.1 f e at))

  -- one more edge
  pub edges_next : (ws : List W) (n : ℕ) (w : W) (edges : List Edge) (edge : Edge) → AreEdges entry Free step most ws n w edges →
      IsEdge entry Free step most ws w n edge → AreEdges entry Free step most ws (n + 1) w (edges ++ (edge ∷ []))
  edges_next ws n w edges edge h on = (
    (let long = length-append edges (edge ∷ []) in let a = h.0 in omega arith),
    λ f e at. elim (get_end edges edge e f at) [
      | inl before ↦ h.1 f e before
      | inr last ↦
          subst (λ k. IsEdge entry Free step most ws w k e) (sym (last.0 ∙ h.0))
          (subst (λ k. IsEdge entry Free step most ws w n k) last.1 on)
    ],
  )

  -- the edges of all fibers that are born are a row
  pub row_of : (ws : List W) (w : W) (row : Row) (n : ℕ) → AreEdges entry Free step most ws n w row.edges.items → n ≤ most →
      ((f : ℕ) → n ≤ f → Makes entry Free step most w f []) → IsRow entry Free step most ws w row
  row_of ws w row n h low rests = record {
    each = h.1;
    rests = λ f past. rests f (let a = h.0 in omega arith);
    few = (let a = h.0 in omega arith);
  }

  pub row_more : (ws vs : List W) (w : W) (row : Row) → IsMore ws vs → IsRow entry Free step most ws w row → IsRow entry Free step most vs w row
  row_more ws vs w row more h = record {
    each = λ f e at. edge_more ws vs w f e more (h.each f e at);
    rests = h.rests;
    few = h.few;
  }

  -- one more row
  pub rows_next : (ws vs : List W) (rows : List Row) (row : Row) → IsMore ws vs → length rows < length ws → AreRows entry Free step most ws rows →
      ((w : W) → slice_get vs (length rows) ≡ Some w → IsRow entry Free step most vs w row) → AreRows entry Free step most vs (rows ++ (row ∷ []))
  rows_next ws vs rows row more low h last i r w at there = elim (get_end rows row r i at) [
    | inl before ↦
        let here = slice_get_within rows i r before in
        row_more ws vs w r more (h i r w before (more_back ws vs i w more (omega arith) there))
    | inr is ↦
        subst (IsRow entry Free step most vs w) is.1 (last w (subst (λ k. slice_get vs k ≡ Some w) is.0 there))
  ]
