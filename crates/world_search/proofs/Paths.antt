-- A schedule that is read back from a node leads to the world or fault of this node.
use Rattle.std.proofs.Common.{◌≡◌, ℕ, zero, suc, ◌<◌, ◌≤◌, List, [], ◌∷◌, ◌++◌, length, Some, Result, Ok, Err, sym, ap, ◌∙◌, subst, arith, length-append}
use Rattle.std.{proofs.lemmas.Option.same_Some, specs.List.slice_get}
use mathlib.Core.Logic.{inl, inr}
use Rattle.world_search.specs.{declared.graphs.Node.Node, Systems.run, Private.{Paths.{IsPath, IsChained, AreChained, IsPath.{Root, Then}}, Shapes.Shape}}
use Rattle.world_search.{specs.Private.{Graphs.{IsEntry, IsReached, Fits}, Listed.AreNotedChained}, proofs.{Closed.run-append, Lists.{get_low, get_end}}}

pub path_long : (nodes : List Node) (n : Node) (p : List ℕ) → IsPath nodes n p → length p ≡ n.depth
path_long nodes n p (Root m q none nil) = let e : length q ≡ 0 = ap (λ (l : List ℕ). length l) nil in omega arith
path_long nodes n p (Then m parent q t above deep way is) =
    let before = path_long nodes parent q way in
    let long = length-append q (m.fiber ∷ []) in
    let same : length t ≡ length (q ++ (m.fiber ∷ [])) = ap (λ (l : List ℕ). length l) is in
    omega arith

module _ {W E R : Type 0} (step : W → ℕ → Result W E) (report : W → R) (most longest : ℕ) (ws : List W) (es : List E) (s : Shape)
    (h : Fits step report most longest ws es s) where
  reached_chained : (n : Node) (y : Result W E) → IsReached step report most longest ws es s.nodes n y → IsChained s.nodes n
  reached_chained n y reached = λ deep. elim reached [
    | inl first ↦ let none = first.0 in absurd (omega arith)
    | inr entry ↦ (entry.how.parent, entry.how.above, entry.how.deeper)
  ]

  pub are_chained : AreChained s.nodes
  are_chained i n at =
      let k = h.known in
      let low = slice_get_low s.nodes i n at in
      let w = get_low ws i (omega arith) in
      reached_chained n (Ok w.0) (h.nodes i n w.0 at w.1)
    where
      slice_get_low : (xs : List Node) (j : ℕ) (x : Node) → slice_get xs j ≡ Some x → j < length xs
      slice_get_low [] j x e = absurd (cc)
      slice_get_low (y ∷ ys) zero x e = omega arith
      slice_get_low (y ∷ ys) (suc j) x e = let l = slice_get_low ys j x e in omega arith

  pub are_noted_chained : AreNotedChained s
  are_noted_chained k n at =
      let noted = h.noted k n at in
      reached_chained n.node (Err noted.why) (inr noted.entry)

  pub reached_short : (n : Node) (y : Result W E) → IsReached step report most longest ws es s.nodes n y → n.depth ≤ longest
  reached_short n y reached = elim reached [
    | inl first ↦ let none = first.0 in omega arith
    | inr entry ↦ entry.how.short
  ]

  -- the world at which an entry was made was reached
  above_reached : (n parent : Node) (y : Result W E) → IsEntry step report most longest ws es s.nodes n y → slice_get s.nodes n.from ≡ Some parent →
      (w : W) × (step w n.fiber ≡ y) × IsReached step report most longest ws es s.nodes parent (Ok w)
  above_reached n parent y entry above = (entry.world, entry.leads, h.nodes n.from parent entry.world above entry.at)

  pub path_runs : (first : W) → slice_get ws 0 ≡ Some first → (n : Node) (p : List ℕ) (y : Result W E) → IsPath s.nodes n p →
      IsReached step report most longest ws es s.nodes n y → run step (Ok first) p ≡ y
  path_runs first there n p y (Root m q none nil) reached = elim reached [
    | inl r ↦
        let same : first ≡ r.1 = same_Some first r.1 (sym there ∙ r.2) in
        subst (λ (l : List ℕ). run step (Ok first) l ≡ y) (sym nil) (ap Ok same ∙ sym r.3)
    | inr entry ↦ let deeper = entry.how.deeper in absurd (omega arith)
  ]
  path_runs first there n p y (Then m parent q t above deep way is) reached = elim reached [
    | inl r ↦ let none = r.0 in absurd (omega arith)
    | inr entry ↦
        let a = above_reached m parent y entry above in
        let before : run step (Ok first) q ≡ Ok a.0 = path_runs first there parent q (Ok a.0) way a.2 in
        let last : run step (run step (Ok first) q) (m.fiber ∷ []) ≡ step a.0 m.fiber = ap (λ x. run step x (m.fiber ∷ [])) before in
        subst (λ (l : List ℕ). run step (Ok first) l ≡ y) (sym is) (run-append step (Ok first) q (m.fiber ∷ []) ∙ last ∙ a.1)
  ]

  pub path_numbers : (n : Node) (p : List ℕ) (y : Result W E) → IsPath s.nodes n p → IsReached step report most longest ws es s.nodes n y →
      (i : ℕ) (f : ℕ) → slice_get p i ≡ Some f → f < most
  path_numbers n p y (Root m q none nil) reached i f at = let no : slice_get [] i ≡ Some f = subst (λ (l : List ℕ). slice_get l i ≡ Some f) nil at in
      absurd (cc)
  path_numbers n p y (Then m parent q t above deep way is) reached i f at = elim reached [
    | inl r ↦ let none = r.0 in absurd (omega arith)
    | inr entry ↦
        let a = above_reached m parent y entry above in
        elim (get_end q m.fiber f i (subst (λ (l : List ℕ). slice_get l i ≡ Some f) is at)) [
          | inl before ↦ path_numbers parent q (Ok a.0) way a.2 i f before
          | inr last ↦ subst (λ (k : ℕ). k < most) last.1 entry.how.small
        ]
  ]
