-- What the answers of a search say, from its graph.
use Rattle.std.proofs.Common.{◌≡◌, ◌≢◌, ℕ, zero, suc, ◌+◌, ◌<◌, ◌≤◌, Bool, true, false, List, [], ◌∷◌, ◌++◌, length, Some, Result, Ok, Err, refl, sym, ap, ◌∙◌}
use Rattle.std.{proofs.{Common.{subst, arith}, lemmas.Option.{same_Some, slice_get_within}}, specs.List.{slice_get, All}}
use mathlib.Core.Logic.{◌⊎◌, inl, inr}
use Rattle.world_search.specs.{declared.{answers.Answer.Answer, graphs.{Edge.Edge, Noted.Noted}, landings.Landing.Landing}, Systems.{run, reported, IsSettled}}
use Rattle.world_search.specs.{Answers.{LeadsTo, IsRight, IsShort, IsNumbered, IsAnswered, IsCovered, IsEnd}, Private.Flags.{AreWithin, LeadsOn, AreFlagged}}
use Rattle.world_search.specs.Private.{Flags.{KeepsFlags, AreBack, LeadsOn.{Here, Along}}, Shapes.Shape, Graphs.{IsReached, IsTold, IsMet, Stays, Leaves, Fits}}
use Rattle.world_search.{specs.{Private.{Graphs.IsDone, Listed.{AreListed, IsWorldListed, IsFaultListed, IsNamed}}, Free.AreGrowing}, proofs.Closed.IsOf}
use Rattle.world_search.proofs.{Closed.{StaysIn, closed_run, run-append, settled, settled_next, settled_stays}, Lists.{get_low, all_from}, Paths.path_long}
use Rattle.world_search.proofs.{Paths.{path_runs, path_numbers, reached_short}, Answering.named_fault, Free.grown}
use Rattle.world_search.specs.declared.landings.Landing.TheVariants as to

-- the sum of the sizes of all worlds
abbrev total : {W : Type 0} → (W → ℕ) → List W → ℕ
total size [] = 0
total size (w ∷ ws) = size w + total size ws

part_total : {W : Type 0} (size : W → ℕ) (ws : List W) (i : ℕ) (w : W) → slice_get ws i ≡ Some w → size w ≤ total size ws
part_total size [] i w at = absurd (cc)
part_total size (v ∷ ws) zero w at = let same = ap size (same_Some v w at) in omega arith
part_total size (v ∷ ws) (suc i) w at = let rest = part_total size ws i w at in omega arith

-- the shape with other flags
abbrev pub flagged : Shape → List Bool → Shape
flagged s flags = record { nodes = s.nodes; edges = s.edges; noted = s.noted; unsettled = flags }

module _ {W E R : Type 0} (step : W → ℕ → Result W E) (report : W → R) (most longest : ℕ) (ws : List W) (es : List E) (s : Shape)
    (h : Fits step report most longest ws es s) where
  pub within : AreWithin s.edges (length s.nodes)
  within k e at = (h.edges k e at).low

  module _ (flags : List Bool) (long : length flags ≡ length s.unsettled) (keeps : KeepsFlags s.unsettled flags) (back : AreBack s.edges flags 0)
      (marks : AreFlagged s.edges s.unsettled flags) where
    -- a world that isn't flagged now wasn't flagged before
    unflagged : (i : ℕ) → slice_get flags i ≡ Some false → slice_get s.unsettled i ≡ Some false
    unflagged i bare = let low = slice_get_within flags i false bare in let b = get_low s.unsettled i (omega arith) in by b.0 b.1
      where
        by : (b : Bool) → slice_get s.unsettled i ≡ Some b → slice_get s.unsettled i ≡ Some false
        by true e = let marked : true ≡ false = same_Some true false (sym (keeps i e) ∙ bare) in absurd (cc)
        by false e = e

    edge_unflagged : (k : ℕ) (e : Edge) → slice_get s.edges k ≡ Some e → slice_get flags e.from ≡ Some false → slice_get flags e.to ≡ Some false
    edge_unflagged k e at bare =
        let low = (within k e at).1 in
        let a = h.unsettled in
        let b = get_low flags e.to (omega arith) in
        by b.0 b.1
      where
        by : (b : Bool) → slice_get flags e.to ≡ Some b → slice_get flags e.to ≡ Some false
        by true is = let marked : true ≡ false = same_Some true false (sym (back k e (omega arith) at is) ∙ bare) in absurd (cc)
        by false is = is

    stays_in : (w : W) (i : ℕ) (y : Result W E) → slice_get ws i ≡ Some w → slice_get flags i ≡ Some false → Stays step report most longest ws es s i w y
        → StaysIn step report (λ v. (j : ℕ) × (slice_get ws j ≡ Some v) × (slice_get flags j ≡ Some false)) w y
    stays_in w i y at bare stays = elim stays [
      | inl same ↦ subst (StaysIn step report (λ v. (j : ℕ) × (slice_get ws j ≡ Some v) × (slice_get flags j ≡ Some false)) w) (sym same) ((i, at, bare), refl)
      | inr a ↦
          let from : slice_get flags a.1.from ≡ Some false = subst (λ n. slice_get flags n ≡ Some false) (sym a.4) bare in
          subst (StaysIn step report (λ v. (j : ℕ) × (slice_get ws j ≡ Some v) × (slice_get flags j ≡ Some false)) w) (sym a.6)
          ((a.1.to, a.5, edge_unflagged a.0 a.1 a.3 from), a.7)
    ]

    pub unflagged_settled : (i : ℕ) (w : W) → slice_get flags i ≡ Some false → slice_get ws i ≡ Some w → IsSettled step report w
    unflagged_settled i w bare at =
        settled step report (λ v. (j : ℕ) × (slice_get ws j ≡ Some v) × (slice_get flags j ≡ Some false))
        (λ v there f. stays_in v there.0 (step v f) there.1 there.2 (h.quiet there.0 (unflagged there.0 there.2) v there.1 f))
        w (i, at, bare)

    -- edges lead from a settled world to settled ones
    leads_settled : (i j : ℕ) → LeadsOn s.edges i j → (w : W) → slice_get ws i ≡ Some w → IsSettled step report w → (v : W) ×
        (slice_get ws j ≡ Some v) × IsSettled step report v
    leads_settled a b (Here i j is) w at stays = (w, subst (λ n. slice_get ws n ≡ Some w) is at, stays)
    leads_settled a b (Along k e i j there is on) w at stays =
        let edge = h.edges k e there in
        let same : edge.world ≡ w = same_Some edge.world w (sym edge.at ∙ subst (λ n. slice_get ws n ≡ Some w) is at) in
        let leads : step w edge.fiber ≡ Ok edge.next = subst (λ v. step v edge.fiber ≡ Ok edge.next) same edge.leads in
        leads_settled e.to j on edge.next edge.to (settled_next step report w edge.next edge.fiber leads stays).0

    leaves_not : (v : W) (y : Result W E) → Leaves step report most longest ws es v y → reported step report y ≡ Ok (report v) → ⊥
    leaves_not v (Ok x) leaves is = let same : report x ≡ report v = cc in leaves same
    leaves_not v (Err e) leaves is = cc

    module _ (done : (i : ℕ) → i < length s.nodes → IsDone step report most longest ws es s i) where
      pub flagged_unsettled : (i : ℕ) (w : W) → slice_get flags i ≡ Some true → slice_get ws i ≡ Some w → IsSettled step report w → ⊥
      flagged_unsettled i w marked at stays =
          let led = marks i marked in
          let there = leads_settled i led.0 led.1 w at stays in
          let low = slice_get_within s.unsettled led.0 true led.2 in
          let a = h.unsettled in
          let leaves = (done led.0 (omega arith)).leaves led.2 there.0 there.1 in
          leaves_not there.0 (step there.0 leaves.0) leaves.1 (settled_stays step report there.0 leaves.0 there.2)

      -- a world that was met, or a fault that is noted
      abbrev pub Met : Result W E → Type 0
      Met y = IsOf step (λ v. (j : ℕ) × (j < length s.nodes) × (slice_get ws j ≡ Some v)) (IsTold step report most longest ws es s) y

      met_is : (y : Result W E) → IsMet step report most longest ws es s y → Met y
      met_is (Ok w) m = m
      met_is (Err e) m = m

      pub all_met : (first : W) → slice_get ws 0 ≡ Some first → (schedule : List ℕ) → Met (run step (Ok first) schedule)
      all_met first there schedule =
          closed_run step (λ v. (j : ℕ) × (j < length s.nodes) × (slice_get ws j ≡ Some v)) (IsTold step report most longest ws es s)
          (λ w m f. met_is (step w f) ((done m.0 m.1).met w m.2 f)) (Ok first) (0, h.some, there) schedule

      module _ (answers : List Answer) (told : (i : ℕ) (w : W) → slice_get flags i ≡ Some false → slice_get ws i ≡ Some w →
          IsAnswered step report ws es answers (Ok w))
          (named : (k : ℕ) (n : Noted) → slice_get s.noted k ≡ Some n → IsNamed answers (to.Fault n.fault)) where
        told_fault : (e : E) → IsTold step report most longest ws es s e → IsAnswered step report ws es answers (Err e)
        told_fault e m = named_fault step report ws es answers m.1.fault e (named m.0 m.1 m.2) m.3

        covered_by : (w : W) (i : ℕ) (b : Bool) → slice_get flags i ≡ Some b → slice_get ws i ≡ Some w → IsSettled step report w →
            IsAnswered step report ws es answers (Ok w)
        covered_by w i true is at stays = absurd (flagged_unsettled i w is at stays)
        covered_by w i false is at stays = told i w is at

        covered : (y : Result W E) → Met y → IsCovered step report ws es answers y
        covered (Ok w) m = λ stays.
            let a = h.unsettled in
            let low = m.1 in
            let b = get_low flags m.0 (omega arith) in
            covered_by w m.0 b.0 b.1 m.2 stays
        covered (Err e) m = told_fault e m

        pub all_covered : (first : W) → slice_get ws 0 ≡ Some first → (schedule : List ℕ) → IsCovered step report ws es answers (run step (Ok first) schedule)
        all_covered first there schedule = covered (run step (Ok first) schedule) (all_met first there schedule)

        -- the entries along edges
        leads_run : (i j : ℕ) → LeadsOn s.edges i j → (w : W) → slice_get ws i ≡ Some w → (more : List ℕ) × (v : W) × (slice_get ws j ≡ Some v) ×
            (run step (Ok w) more ≡ Ok v)
        leads_run a b (Here i j is) w at = ([], w, subst (λ n. slice_get ws n ≡ Some w) is at, refl)
        leads_run a b (Along k e i j there is on) w at =
            let edge = h.edges k e there in
            let same : edge.world ≡ w = same_Some edge.world w (sym edge.at ∙ subst (λ n. slice_get ws n ≡ Some w) is at) in
            let leads : step w edge.fiber ≡ Ok edge.next = subst (λ v. step v edge.fiber ≡ Ok edge.next) same edge.leads in
            let rest = leads_run e.to j on edge.next edge.to in
            (edge.fiber ∷ rest.0, rest.1, rest.2, ap (λ x. run step x rest.0) leads ∙ rest.3)

        module _ (size : R → ℕ) (growing : AreGrowing step report size) where
          -- a fault, or a world with a larger report
          abbrev Rises : W → Result W E → Type 0
          Rises w (Ok x) = size (report w) < size (report x)
          Rises w (Err e) = Unit {0}

          rises_over : (w v x : W) → (report v ≡ report w) ⊎ (size (report w) < size (report v)) → (report x ≡ report v) ⊎ (size (report v) < size (report x)) →
              report x ≢ report v → Rises w (Ok x)
          rises_over w v x before (inl same) leaves = absurd (leaves same)
          rises_over w v x (inl same) (inr larger) leaves = let as_large = ap size same in omega arith
          rises_over w v x (inr less) (inr larger) leaves = omega arith

          rises_at : (w v : W) (f : ℕ) (y : Result W E) → step v f ≡ y → (report v ≡ report w) ⊎ (size (report w) < size (report v)) →
              Leaves step report most longest ws es v y → Rises w y
          rises_at w v f (Ok x) leads before leaves = rises_over w v x before (growing v f x leads) leaves
          rises_at w v f (Err e) leads before leaves = tt

          -- some entries lead from a flagged world to a fault or to a larger report
          rises : (i : ℕ) (w : W) → slice_get flags i ≡ Some true → slice_get ws i ≡ Some w → (more : List ℕ) × Rises w (run step (Ok w) more)
          rises i w marked at =
              let led = marks i marked in
              let on = leads_run i led.0 led.1 w at in
              let low = slice_get_within s.unsettled led.0 true led.2 in
              let a = h.unsettled in
              let leaves = (done led.0 (omega arith)).leaves led.2 on.1 on.2 in
              let last : run step (Ok w) (on.0 ++ (leaves.0 ∷ [])) ≡ step on.1 leaves.0 = run-append step (Ok w) on.0 (leaves.0 ∷ []) ∙
              ap (λ x. run step x (leaves.0 ∷ [])) on.3 in (
                on.0 ++ (leaves.0 ∷ []),
                subst (Rises w) (sym last) (rises_at w on.1 leaves.0 (step on.1 leaves.0) refl (grown step report size growing on.0 w on.1 on.3) leaves.1),
              )

          -- some further entries lead to an answer
          abbrev Ends : Result W E → Type 0
          Ends y = (more : List ℕ) × IsEnd step report ws es answers (run step y more)

          -- the report can still become larger at most n times
          abbrev Room : ℕ → Result W E → Type 0
          Room n (Ok w) = total (λ v. size (report v)) ws ≤ size (report w) + n
          Room n (Err e) = Unit {0}

          ends_on : (n : ℕ) (w : W) → Room n (Ok w) → (y : Result W E) → Rises w y → Met y →
              ((m : ℕ) → n ≡ suc m → (x : W) → Met (Ok x) → Room m (Ok x) → Ends (Ok x)) → Ends y
          ends_on zero w room (Ok x) rises m rest = let most_of = part_total (λ v. size (report v)) ws m.0 x m.2 in absurd (omega arith)
          ends_on (suc n) w room (Ok x) rises m rest = rest n refl x m (omega arith)
          ends_on n w room (Err e) rises m rest = ([], told_fault e m)

          ends_by : (n : ℕ) (w : W) (i : ℕ) (b : Bool) → slice_get flags i ≡ Some b → i < length s.nodes → slice_get ws i ≡ Some w → Room n (Ok w) →
              ((m : ℕ) → n ≡ suc m → (x : W) → Met (Ok x) → Room m (Ok x) → Ends (Ok x)) → Ends (Ok w)
          ends_by n w i true is low at room rest =
              let up = rises i w is at in
              let there = closed_run step (λ v. (j : ℕ) × (j < length s.nodes) × (slice_get ws j ≡ Some v)) (IsTold step report most longest ws es s)
              (λ w m f. met_is (step w f) ((done m.0 m.1).met w m.2 f)) (Ok w) (i, low, at) up.0 in
              let on = ends_on n w room (run step (Ok w) up.0) up.1 there rest in
              (up.0 ++ on.0, subst (IsEnd step report ws es answers) (sym (run-append step (Ok w) up.0 on.0)) on.1)
          ends_by n w i false is low at room rest = ([], (unflagged_settled i w is at, told i w is at))

          ends_at : (n : ℕ) (w : W) → Met (Ok w) → Room n (Ok w) → Ends (Ok w)
          ends_at zero w m room =
              let a = h.unsettled in
              let low = m.1 in
              let b = get_low flags m.0 (omega arith) in
              ends_by zero w m.0 b.0 b.1 low m.2 room (λ k is. absurd (omega arith))
          ends_at (suc n) w m room =
              let a = h.unsettled in
              let low = m.1 in
              let b = get_low flags m.0 (omega arith) in
              ends_by (suc n) w m.0 b.0 b.1 low m.2 room
              (λ k is x there less. ends_at n x there (let same : k ≡ n = omega arith in subst (λ j. Room j (Ok x)) same less))

          end_of : (y : Result W E) → Met y → Ends y
          end_of (Ok w) m = ends_at (total (λ v. size (report v)) ws) w m (omega arith)
          end_of (Err e) m = ([], told_fault e m)

          -- if reports grow, some further entries lead to an answer after each schedule
          pub all_onward : (first : W) → slice_get ws 0 ≡ Some first → (schedule : List ℕ) → (more : List ℕ) ×
              IsEnd step report ws es answers (run step (Ok first) (schedule ++ more))
          all_onward first there schedule =
              let on = end_of (run step (Ok first) schedule) (all_met first there schedule) in
              (on.0, subst (IsEnd step report ws es answers) (sym (run-append step (Ok first) schedule on.0)) on.1)

    module _ (answers : List Answer) (listed : AreListed (flagged s flags) answers) where
      -- the node of an answer, and where its entry leads
      world_reached : (a : Answer) (l : IsWorldListed (flagged s flags) a) → (w : W) × (slice_get ws l.number ≡ Some w) ×
          IsReached step report most longest ws es s.nodes l.node (Ok w)
      world_reached a l =
          let low = slice_get_within s.nodes l.number l.node l.at in
          let k = h.known in
          let w = get_low ws l.number (omega arith) in
          (w.0, w.1, h.nodes l.number l.node w.0 l.at w.1)

      right : (first : W) → slice_get ws 0 ≡ Some first → (a : Answer) → (IsWorldListed (flagged s flags) a ⊎ IsFaultListed (flagged s flags) a) →
          IsRight step report ws es first a
      right first there a one = elim one [
        | inl l ↦
            let w = world_reached a l in
            subst (λ (x : Landing). LeadsTo step report ws es first a.schedule.items x) (sym l.end) (
              w.0,
              w.1,
              path_runs step report most longest ws es s h first there l.node a.schedule.items (Ok w.0) l.path w.2,
              unflagged_settled l.number w.0 l.settled w.1,
            )
        | inr l ↦
            let noted = h.noted l.number l.noted l.at in
            subst (λ (x : Landing). LeadsTo step report ws es first a.schedule.items x) (sym l.end) (
              noted.why,
              noted.at,
              path_runs step report most longest ws es s h first there l.noted.node a.schedule.items (Err noted.why) l.path (inr noted.entry),
            )
      ]

      numbered : (a : Answer) → (IsWorldListed (flagged s flags) a ⊎ IsFaultListed (flagged s flags) a) → IsNumbered most a
      numbered a one = elim one [
        | inl l ↦
            let w = world_reached a l in
            all_from (λ f. f < most) a.schedule.items (path_numbers step report most longest ws es s h l.node a.schedule.items (Ok w.0) l.path w.2)
        | inr l ↦
            let noted = h.noted l.number l.noted l.at in
            all_from (λ f. f < most) a.schedule.items
            (path_numbers step report most longest ws es s h l.noted.node a.schedule.items (Err noted.why) l.path (inr noted.entry))
      ]

      short : (a : Answer) → (IsWorldListed (flagged s flags) a ⊎ IsFaultListed (flagged s flags) a) → IsShort longest a
      short a one = elim one [
        | inl l ↦
            let w = world_reached a l in
            let long = path_long s.nodes l.node a.schedule.items l.path in
            let deep = reached_short step report most longest ws es s h l.node (Ok w.0) w.2 in
            omega arith
        | inr l ↦
            let noted = h.noted l.number l.noted l.at in
            let long = path_long s.nodes l.noted.node a.schedule.items l.path in
            let deep = reached_short step report most longest ws es s h l.noted.node (Err noted.why) (inr noted.entry) in
            omega arith
      ]

      pub all_right : (first : W) → slice_get ws 0 ≡ Some first → All (IsRight step report ws es first) answers
      all_right first there = all_from (IsRight step report ws es first) answers (λ i a at. right first there a (listed i a at))

      pub all_numbered : All (IsNumbered most) answers
      all_numbered = all_from (IsNumbered most) answers (λ i a at. numbered a (listed i a at))

      pub all_short : (bound : ℕ) → longest ≤ bound → All (IsShort bound) answers
      all_short bound low = all_from (IsShort bound) answers (λ i a at. let s = short a (listed i a at) in omega arith)
