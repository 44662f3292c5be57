-- Ranks of worlds, from the rows of a table.
use Rattle.std.proofs.{Common.{◌≡◌, ◌≢◌, ℕ, ◌<◌, ◌≤◌, List, [], length, Some, Result, Ok, Err, refl, subst, arith}, lemmas.Bool.cases_order}
use Rattle.std.specs.List.{slice_get}
use mathlib.Core.Logic.{◌⊎◌, inl, inr}
use Rattle.world_search.specs.Lists.{IsIn}
use Rattle.fair_ends.specs.{declared.{rank.Rank.Rank, table.Row.Row}, Private.{Ranks.{Falls, Leads, LeadsOn}, Tables.{fault, IsRow, LandsOn}}}

module _ {W E : Type 0} (entry : W → ℕ → Result W E) (Free : W → ℕ → Type 0) (step : W → ℕ → Result W E) (Rests : W → Type 0) (most : ℕ)
    (ws : List W) (ranks : List Rank) where
  none_in : (f : ℕ) → IsIn f [] → ⊥
  none_in f h = let no : slice_get [] h.0 ≡ Some f = h.1 in cc

  -- a step that makes no entry
  stays : (i : ℕ) (a : Rank) (f : ℕ) (w : W) → slice_get ws i ≡ Some w → slice_get ranks i ≡ Some a → f ≢ a.helper →
      Leads entry Free step Rests most ws ranks a f [] (Ok w)
  stays i a f w at there isnt = (i, a, at, there, inr (inr (refl, refl, isnt, none_in a.helper)))

  -- a step to a world under which the rank falls or stays
  pub leads_falls : (a b : Rank) (f t : ℕ) (made : List ℕ) (y : Result W E) → LandsOn ws t y → t ≢ fault → slice_get ranks t ≡ Some b → Falls a f made b →
      Leads entry Free step Rests most ws ranks a f made y
  leads_falls a b f t made (Ok x) on isnt at falls = (t, b, on.0, at, inr falls)
  leads_falls a b f t made (Err e) on isnt at falls = absurd (isnt on)

  pub leads_row : (i : ℕ) (a : Rank) (w : W) (row : Row) → slice_get ranks i ≡ Some a → slice_get ws i ≡ Some w →
      IsRow entry Free step most ws w row → a.helper < length row.edges.items →
      ((f : ℕ) → f < length row.edges.items → LeadsOn entry Free step Rests most ws ranks a w f) → (f : ℕ) →
      LeadsOn entry Free step Rests most ws ranks a w f
  leads_row i a w row there at row_is low each f = by (cases_order f (length row.edges.items))
    where
      past : length row.edges.items ≤ f → LeadsOn entry Free step Rests most ws ranks a w f
      past over =
          let none = row_is.rests f over in
          ([], none, subst (Leads entry Free step Rests most ws ranks a f []) none.leads (stays i a f w at there (λ same. omega arith)))

      by : (f ≡ length row.edges.items) ⊎ ((f < length row.edges.items) ⊎ (length row.edges.items < f)) →
          LeadsOn entry Free step Rests most ws ranks a w f
      by (inl same) = past (omega arith)
      by (inr (inl less)) = each f less
      by (inr (inr more)) = past (omega arith)
