-- Each world of a store was met, and no node is deeper than its number.
use Rattle.std.proofs.Common.{◌≡◌, ℕ, ◌+◌, ◌<◌, ◌≤◌, List, [], ◌∷◌, ◌++◌, length, refl, sym, subst, arith, length-append, inl, inr}
use Rattle.std.proofs.lemmas.Option.{slice_get_within}
use mathlib.Core.Logic.{◌⊎◌}
use Rattle.world_search.specs.{declared.{graphs.{Node.Node, Edge.Edge}, expanding.Came.Came}, Private.Shapes.{Shape, with_edge, with_quiet, Keeps}}
use Rattle.world_search.{specs.Private.Graphs.{CanEnter, AreShallow, IsSnug, IsNearly, IsStopped, worse_of}, proofs.Lists.get_end}
use Rattle.world_search.specs.declared.expanding.Came.TheVariants as came

shallow_next : (most longest : ℕ) (nodes : List Node) (n : Node) → AreShallow nodes → CanEnter most longest nodes n →
    AreShallow (nodes ++ (n ∷ []))
shallow_next most longest nodes n h how = λ i m at. elim (get_end nodes n m i at) [
  | inl old ↦ h i m old
  | inr last ↦
      let above = h n.from how.parent how.above in
      let low = slice_get_within nodes n.from how.parent how.above in
      let deeper = how.deeper in
      let here = last.0 in
      let depth : n.depth ≤ i = omega arith in
      subst (λ (x : Node). x.depth ≤ i) last.1 depth
]

module _ (most longest : ℕ) (s t : Shape) (n : Node) (j many room : ℕ) (how : CanEnter most longest s.nodes n)
    (keeps : Keeps s t n j) (low : j < many) (near : IsNearly many j room s) where
  next_long : length (s.nodes ++ (n ∷ [])) ≡ length s.nodes + 1
  next_long = length-append s.nodes (n ∷ [])

  -- if the world of this number is now among those that were met
  pub kept_snug : j < length t.nodes → IsSnug many t
  kept_snug kept = elim keeps [
    | inl same ↦
        let there : j < length s.nodes = subst (λ (x : Shape). j < length x.nodes) same kept in
        subst (IsSnug many) (sym same) (elim near.1 [
          | inl even ↦ record { even = even; shallow = near.0 }
          | inr last ↦ let a = last.0 in absurd (omega arith)
        ])
    | inr next ↦
        let here = next.0 in
        let long = next_long in
        let even : length (s.nodes ++ (n ∷ [])) ≡ many = elim near.1 [
          | inl even ↦ absurd (omega arith)
          | inr last ↦ let a = last.1 in omega arith
        ] in
        subst (IsSnug many) (sym next.1)
        (record { even = even; shallow = shallow_next most longest s.nodes n near.0 how })
  ]

  -- if it isn't, there are at least `room` worlds
  pub lost_snug : (room ≤ j) ⊎ (length s.nodes < j) → IsSnug many t × (room ≤ many)
  lost_snug refused =
      let even : length s.nodes ≡ many = elim near.1 [
        | inl even ↦ even
        | inr last ↦ let a = last.0 in let b = last.2 in elim refused [
          | inl full ↦ absurd (omega arith)
          | inr past ↦ absurd (omega arith)
        ]
      ] in
      let full : room ≤ many = elim refused [ inl full ↦ omega arith | inr past ↦ absurd (omega arith) ] in
      let before : IsSnug many s = record { even = even; shallow = near.0 } in (
        elim keeps [
          | inl same ↦ subst (IsSnug many) (sym same) before
          | inr next ↦ let a = next.0 in absurd (omega arith)
        ],
        full,
      )

-- an edge keeps a graph snug
pub edge_snug : (s : Shape) (e : Edge) (many : ℕ) → IsSnug many s → IsSnug many (with_edge s e)
edge_snug s e many h = record { even = h.even; shallow = h.shallow }

-- so does a world that becomes quiet
pub quiet_snug : (s : Shape) (i many : ℕ) → IsSnug many s → IsSnug many (with_quiet s i)
quiet_snug s i many h = record { even = h.even; shallow = h.shallow }

-- the result of two is `Lost` only if one of them is
pub worse_lost : (one other : Came) → worse_of one other ≡ came.Lost → (one ≡ came.Lost) ⊎ (other ≡ came.Lost)
worse_lost came.Lost other e = inl refl
worse_lost came.Leaves came.Lost e = inr refl
worse_lost came.Leaves came.Leaves e = absurd (cc)
worse_lost came.Leaves came.Stays e = absurd (cc)
worse_lost came.Stays other e = inr e

-- a search that has stopped at a limit is still at it with more worlds
pub stopped_on : (worlds entries before after : ℕ) → before ≤ after → IsStopped worlds entries before →
    IsStopped worlds entries after
stopped_on worlds entries before after more h = elim h [
  | inl full ↦ inl (let a : worlds ≤ before = full in omega arith)
  | inr long ↦ inr (let a : entries < before = long in omega arith)
]
