-- What is known of the worlds and entries of a search still holds where more are added.
use Rattle.std.proofs.Common.{◌≡◌, ℕ, ◌+◌, ◌<◌, true, false, List, [], ◌∷◌, ◌++◌, length, Some, Result, Ok, Err, sym, ◌∙◌, ap, subst, arith, inl, inr}
use Rattle.std.{proofs.{Common.{length-append, length-set}, lemmas.Option.{same_Some, slice_get_within}}, specs.List.slice_get}
use mathlib.Core.Logic.{dite}
use native.Mathlib.Decide.{ℕ_discrete}
use Rattle.world_search.specs.{declared.graphs.{Node.Node, Edge.Edge, Noted.Noted}, Lists.IsMore, Private.Shapes.{AreNotedOnce, IsNotedIn, Shape, with_node}}
use Rattle.world_search.specs.Private.{Shapes.{with_edge, with_noted, with_quiet}, Graphs.{CanEnter, IsEntry, IsReached, IsEdge, IsNoted, IsTold, IsMet, Stays}}
use Rattle.world_search.{specs.Private.Graphs.{IsQuiet, Fits, Grows, IsDone}, proofs.Lists.{more_same, more_by, more_more, more_get, more_back, more_long}}
use Rattle.world_search.proofs.Lists.{get_end, set_other}

pub grows_same : {W E : Type 0} (ws : List W) (es : List E) (s : Shape) → Grows ws ws es es s s
grows_same ws es s = record { worlds = more_same ws; faults = more_same es; nodes = more_same s.nodes; edges = more_same s.edges; noted = more_same s.noted }

pub grows_store : {W E : Type 0} (ws vs : List W) (es ds : List E) (s : Shape) → IsMore ws vs → IsMore es ds → Grows ws vs es ds s s
grows_store ws vs es ds s m n = record { worlds = m; faults = n; nodes = more_same s.nodes; edges = more_same s.edges; noted = more_same s.noted }

pub grows_grows : {W E : Type 0} (ws vs us : List W) (es ds cs : List E) (s t r : Shape) → Grows ws vs es ds s t → Grows vs us ds cs t r → Grows ws us es cs s r
grows_grows ws vs us es ds cs s t r g h = record {
  worlds = more_more ws vs us g.worlds h.worlds;
  faults = more_more es ds cs g.faults h.faults;
  nodes = more_more s.nodes t.nodes r.nodes g.nodes h.nodes;
  edges = more_more s.edges t.edges r.edges g.edges h.edges;
  noted = more_more s.noted t.noted r.noted g.noted h.noted;
}

pub grows_node : {W E : Type 0} (ws : List W) (es : List E) (s : Shape) (n : Node) → Grows ws ws es es s (with_node s n)
grows_node ws es s n =
    record { worlds = more_same ws; faults = more_same es; nodes = more_by s.nodes (n ∷ []); edges = more_same s.edges; noted = more_same s.noted }

pub grows_edge : {W E : Type 0} (ws : List W) (es : List E) (s : Shape) (e : Edge) → Grows ws ws es es s (with_edge s e)
grows_edge ws es s e =
    record { worlds = more_same ws; faults = more_same es; nodes = more_same s.nodes; edges = more_by s.edges (e ∷ []); noted = more_same s.noted }

pub grows_noted : {W E : Type 0} (ws : List W) (es : List E) (s : Shape) (n : Noted) → Grows ws ws es es s (with_noted s n)
grows_noted ws es s n =
    record { worlds = more_same ws; faults = more_same es; nodes = more_same s.nodes; edges = more_same s.edges; noted = more_by s.noted (n ∷ []) }

-- a fault that wasn't noted is noted once
noted_once : (noted : List Noted) (n : Noted) → AreNotedOnce noted → (IsNotedIn noted n.fault → ⊥) → AreNotedOnce (noted ++ (n ∷ []))
noted_once noted n once first k l c d less atk atl = elim (get_end noted n c k atk) [
  | inl a ↦ elim (get_end noted n d l atl) [
    | inl b ↦ once k l c d less a b
    | inr b ↦ λ same. first (k, c, a, same ∙ ap (λ (x : Noted). x.fault) (sym b.1))
  ]
  | inr a ↦
      let here = a.0 in
      let low = slice_get_within (noted ++ (n ∷ [])) l d atl in
      let long : length (noted ++ (n ∷ [])) ≡ length noted + 1 = length-append noted (n ∷ []) in
      absurd (omega arith)
]

module _ {W E R : Type 0} (step : W → ℕ → Result W E) (report : W → R) (most longest : ℕ) where
  module _ (ws vs : List W) (es ds : List E) (s t : Shape) (g : Grows ws vs es ds s t) where
    pub grow_enter : (n : Node) → CanEnter most longest s.nodes n → CanEnter most longest t.nodes n
    grow_enter n h = record {
      parent = h.parent;
      above = more_get s.nodes t.nodes n.from h.parent g.nodes h.above;
      deeper = h.deeper;
      short =
          h.short;
      small = h.small;
    }

    pub grow_entry : (n : Node) (y : Result W E) → IsEntry step report most longest ws es s.nodes n y → IsEntry step report most longest vs ds t.nodes n y
    grow_entry n y h = record { how = grow_enter n h.how; world = h.world; at = more_get ws vs n.from h.world g.worlds h.at; leads = h.leads }

    pub grow_reached : (n : Node) (y : Result W E) → IsReached step report most longest ws es s.nodes n y → IsReached step report most longest vs ds t.nodes n y
    grow_reached n y h = elim h [
      | inl first ↦ inl (first.0, first.1, more_get ws vs 0 first.1 g.worlds first.2, first.3)
      | inr entry ↦ inr (grow_entry n y entry)
    ]

    pub grow_edge : (e : Edge) → IsEdge step report most longest ws es s.nodes e → IsEdge step report most longest vs ds t.nodes e
    grow_edge e h =
        let long = more_long s.nodes t.nodes g.nodes in
        let a = h.low.0 in
        let b = h.low.1 in
        record {
          low = (omega arith, omega arith);
          world = h.world;
          next = h.next;
          fiber = h.fiber;
          at = more_get ws vs e.from h.world g.worlds h.at;
          to = more_get ws vs e.to h.next g.worlds h.to;
          leads = h.leads;
        }

    pub grow_noted : (n : Noted) → IsNoted step report most longest ws es s.nodes n → IsNoted step report most longest vs ds t.nodes n
    grow_noted n h = record { why = h.why; at = more_get es ds n.fault h.why g.faults h.at; entry = grow_entry n.node (Err h.why) h.entry }

    pub grow_told : (e : E) → IsTold step report most longest ws es s e → IsTold step report most longest vs ds t e
    grow_told e h = (h.0, h.1, more_get s.noted t.noted h.0 h.1 g.noted h.2, more_get es ds h.1.fault e g.faults h.3)

    pub grow_met : (y : Result W E) → IsMet step report most longest ws es s y → IsMet step report most longest vs ds t y
    grow_met (Ok w) h = let long = more_long s.nodes t.nodes g.nodes in let low = h.1 in (h.0, omega arith, more_get ws vs h.0 w g.worlds h.2)
    grow_met (Err e) h = grow_told e h

    pub grow_stays : (i : ℕ) (w : W) (y : Result W E) → Stays step report most longest ws es s i w y → Stays step report most longest vs ds t i w y
    grow_stays i w y h = elim h [
      | inl same ↦ inl same
      | inr a ↦ inr (a.0, a.1, a.2, more_get s.edges t.edges a.0 a.1 g.edges a.3, a.4, more_get ws vs a.1.to a.2 g.worlds a.5, a.6, a.7)
    ]

    pub grow_quiet : (i : ℕ) → i < length ws → IsQuiet step report most longest ws es s i → IsQuiet step report most longest vs ds t i
    grow_quiet i low h w at f = grow_stays i w (step w f) (h w (more_back ws vs i w g.worlds low at) f)

    pub grow_done : (i : ℕ) → i < length ws → slice_get t.unsettled i ≡ slice_get s.unsettled i → IsDone step report most longest ws es s i →
        IsDone step report most longest vs ds t i
    grow_done i low flag h = record {
      met = λ w at f. grow_met (step w f) (h.met w (more_back ws vs i w g.worlds low at) f);
      leaves = λ yes w at. h.leaves (sym flag ∙ yes) w (more_back ws vs i w g.worlds low at);
    }

  module _ (ws : List W) (es : List E) where
    module _ (s : Shape) (h : Fits step report most longest ws es s) where
      pub fits_store : (vs : List W) (ds : List E) → IsMore ws vs → IsMore es ds → Fits step report most longest vs ds s
      fits_store vs ds m n =
          let g = grows_store ws vs es ds s m n in
          let long = more_long ws vs m in
          record {
            some = h.some;
            known = let k = h.known in omega arith;
            nodes = λ i d w at there. let low = slice_get_within s.nodes i d at in let k = h.known in
                grow_reached ws vs es ds s s g d (Ok w) (h.nodes i d w at (more_back ws vs i w m (omega arith) there));
            edges = λ k e at. grow_edge ws vs es ds s s g e (h.edges k e at);
            noted = λ k d at. grow_noted ws vs es ds s s g d (h.noted k d at);
            once = h.once;
            unsettled = h.unsettled;
            quiet = λ i at. let low = slice_get_within s.unsettled i false at in let a = h.unsettled in let k = h.known in
                grow_quiet ws vs es ds s s g i (omega arith) (h.quiet i at);
          }

      pub fits_node : (n : Node) (w : W) → slice_get ws (length s.nodes) ≡ Some w → IsEntry step report most longest ws es s.nodes n (Ok w) →
          Fits step report most longest ws es (with_node s n)
      fits_node n w next entry =
          let g = grows_node ws es s n in
          let t = with_node s n in
          let long : length (s.nodes ++ (n ∷ [])) ≡ length s.nodes + 1 = length-append s.nodes (n ∷ []) in
          let low = slice_get_within ws (length s.nodes) w next in
          record {
            some = omega arith;
            known = omega arith;
            nodes = λ i d v at there. elim (get_end s.nodes n d i at) [
              | inl old ↦ grow_reached ws ws es es s t g d (Ok v) (h.nodes i d v old there)
              | inr last ↦
                  let same : w ≡ v = same_Some w v (sym next ∙ subst (λ j. slice_get ws j ≡ Some v) last.0 there) in
                  inr (subst (λ (m : Node). IsEntry step report most longest ws es t.nodes m (Ok v)) last.1
                  (subst (λ u. IsEntry step report most longest ws es t.nodes n (Ok u)) same (grow_entry ws ws es es s t g n (Ok w) entry)))
            ];
            edges = λ k e at. grow_edge ws ws es es s t g e (h.edges k e at);
            noted = λ k d at. grow_noted ws ws es es s t g d (h.noted k d at);
            once = h.once;
            unsettled = let a = length-append s.unsettled (true ∷ []) in let b = h.unsettled in omega arith;
            quiet = λ i at. elim (get_end s.unsettled true false i at) [
              | inl old ↦ h.quiet i old
              | inr last ↦ let no : true ≡ false = last.1 in absurd (cc)
            ];
          }

      pub fits_edge : (e : Edge) → IsEdge step report most longest ws es s.nodes e → Fits step report most longest ws es (with_edge s e)
      fits_edge e new =
          let g = grows_edge ws es s e in
          let t = with_edge s e in
          record {
            some = h.some;
            known = h.known;
            nodes = h.nodes;
            edges = λ k d at. elim (get_end s.edges e d k at) [
              | inl old ↦ h.edges k d old
              | inr last ↦ subst (λ (x : Edge). IsEdge step report most longest ws es s.nodes x) last.1 new
            ];
            noted = h.noted;
            once = h.once;
            unsettled = h.unsettled;
            quiet = λ i at. let low = slice_get_within s.unsettled i false at in let a = h.unsettled in let k = h.known in
                grow_quiet ws ws es es s t g i (omega arith) (h.quiet i at);
          }

      pub fits_noted : (n : Noted) → IsNoted step report most longest ws es s.nodes n → (IsNotedIn s.noted n.fault → ⊥) →
          Fits step report most longest ws es (with_noted s n)
      fits_noted n new first =
          let g = grows_noted ws es s n in
          let t = with_noted s n in
          record {
            some = h.some;
            known = h.known;
            nodes = h.nodes;
            edges = h.edges;
            noted = λ k d at. elim (get_end s.noted n d k at) [
              | inl old ↦ h.noted k d old
              | inr last ↦ subst (λ (x : Noted). IsNoted step report most longest ws es s.nodes x) last.1 new
            ];
            once = noted_once s.noted n h.once first;
            unsettled = h.unsettled;
            quiet = h.quiet;
          }

      pub fits_quiet : (i : ℕ) → IsQuiet step report most longest ws es s i → Fits step report most longest ws es (with_quiet s i)
      fits_quiet i new = record {
        some = h.some;
        known = h.known;
        nodes = h.nodes;
        edges = h.edges;
        noted = h.noted;
        once = h.once;
        unsettled = length-set s.unsettled i false ∙ h.unsettled;
        quiet = λ j at. dite (ℕ_discrete j i)
            (λ is. subst (λ n. IsQuiet step report most longest ws es s n) (sym is) new)
            (λ isnt. h.quiet j (sym (set_other s.unsettled i j false isnt) ∙ at));
      }
