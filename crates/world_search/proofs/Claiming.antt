-- What the listed claims say, from the graph of the search.
use Rattle.std.proofs.Common.{◌≡◌, ℕ, ◌+◌, ◌<◌, ◌≤◌, Bool, false, List, [], ◌∷◌, length, Some, Result, Ok, Err, sym, ◌∙◌, subst, arith}
use Rattle.std.{proofs.lemmas.Option.slice_get_within, specs.List.{slice_get, All}}
use mathlib.Core.Logic.{◌⊎◌, inl, inr, dite}
use native.Mathlib.Decide.{ℕ_discrete}
use Rattle.world_search.specs.{declared.{claims.Met.Met, graphs.Node.Node}, Claims.{IsBrief, IsFew, IsFound, IsMetBy}, Lists.IsMore, Systems.run}
use Rattle.world_search.specs.Private.{Claimed.{AddsMet, AreListedMet, AreLooked, IsListedMet, MeetsNone}, Graphs.{Fits, IsDone, IsMet, IsReached, IsTold}}
use Rattle.world_search.{specs.Private.Shapes.Shape, proofs.{Closed.{IsOf, closed_run}, Lists.{all_from, get_end, get_last, get_low, more_by, more_in}}}
use Rattle.world_search.proofs.Paths.{path_long, path_numbers, path_runs, reached_short}

found_more : (i : ℕ) (old new : List Met) → IsMore old new → IsFound i old → IsFound i new
found_more i old new more h = (h.0, more_in old new h.0 more h.1, h.2)

module _ {W C : Type 0} (meets : W → C → Bool) (ws : List W) (nodes : List Node) (claims : List C) (number : ℕ) (old new : List Met)
    (adds : AddsMet meets ws nodes claims number old new) where
  -- one more claim
  pub listed_next : AreListedMet meets ws nodes claims old → AreListedMet meets ws nodes claims new
  listed_next h k m at = elim adds [
    | inl none ↦ h k m (subst (λ (l : List Met). slice_get l k ≡ Some m) none.0 at)
    | inr one ↦ elim (get_end old one.0 m k (subst (λ (l : List Met). slice_get l k ≡ Some m) one.1 at)) [
      | inl early ↦ h k m early
      | inr last ↦ subst (λ (x : Met). IsListedMet meets ws nodes claims x) last.1 one.3
    ]
  ]

  pub looked_next : AreLooked meets ws (length nodes) claims number old → AreLooked meets ws (length nodes) claims (number + 1) new
  looked_next h i c low at = elim adds [
    | inl none ↦ dite (ℕ_discrete i number)
        (λ is. inr (none.1 c (subst (λ j. slice_get claims j ≡ Some c) is at)))
        (λ isnt. subst (λ (l : List Met). IsFound i l ⊎ MeetsNone meets ws (length nodes) c) (sym none.0) (h i c (omega arith) at))
    | inr one ↦
        let more : IsMore old new = subst (λ (l : List Met). IsMore old l) (sym one.1) (more_by old (one.0 ∷ [])) in
        dite (ℕ_discrete i number)
        (λ is. inl (one.0, (length old, subst (λ (l : List Met). slice_get l (length old) ≡ Some one.0) (sym one.1) (get_last old one.0)), one.2 ∙ sym is))
        (λ isnt. elim (h i c (omega arith) at) [
          | inl found ↦ inl (found_more i old new more found)
          | inr none ↦ inr none
        ])
  ]

module _ {W E R C : Type 0} (step : W → ℕ → Result W E) (report : W → R) (most longest : ℕ) (ws : List W) (es : List E) (s : Shape)
    (h : Fits step report most longest ws es s) (meets : W → C → Bool) (claims : List C) (met : List Met) where
  module _ (listed : AreListedMet meets ws s.nodes claims met) where
    -- where the schedule of a claim leads
    reached : (k : ℕ) (m : Met) (at : slice_get met k ≡ Some m) → (w : W) × (slice_get ws (listed k m at).2.number ≡ Some w) ×
        IsReached step report most longest ws es s.nodes (listed k m at).2.node (Ok w)
    reached k m at =
        let l = (listed k m at).2 in
        let low = slice_get_within s.nodes l.number l.node l.at in
        let known = h.known in
        let w = get_low ws l.number (omega arith) in
        (w.0, w.1, h.nodes l.number l.node w.0 l.at w.1)

    pub all_led : (first : W) → slice_get ws 0 ≡ Some first → All (IsMetBy step meets first claims) met
    all_led first there = all_from (IsMetBy step meets first claims) met (λ k m at.
        let l = listed k m at in
        let w = reached k m at in
        (l.0, l.1, (w.0, path_runs step report most longest ws es s h first there l.2.node m.schedule.items (Ok w.0) l.2.path w.2, l.2.holds w.0 w.1)))

    pub all_few : All (IsFew most) met
    all_few = all_from (IsFew most) met (λ k m at.
        let l = listed k m at in
        let w = reached k m at in
        all_from (λ f. f < most) m.schedule.items (path_numbers step report most longest ws es s h l.2.node m.schedule.items (Ok w.0) l.2.path w.2))

    pub all_brief : (bound : ℕ) → longest ≤ bound → All (IsBrief bound) met
    all_brief bound low = all_from (IsBrief bound) met (λ k m at.
        let l = listed k m at in
        let w = reached k m at in
        let long = path_long s.nodes l.2.node m.schedule.items l.2.path in
        let deep = reached_short step report most longest ws es s h l.2.node (Ok w.0) w.2 in
        omega arith)

  module _ (done : (i : ℕ) → i < length s.nodes → IsDone step report most longest ws es s i) where
    abbrev IsWorld : W → Type 0
    IsWorld v = (j : ℕ) × (j < length s.nodes) × (slice_get ws j ≡ Some v)

    is_of : (y : Result W E) → IsMet step report most longest ws es s y → IsOf step IsWorld (IsTold step report most longest ws es s) y
    is_of (Ok w) m = m
    is_of (Err e) m = m

    pub all_unmet : AreLooked meets ws (length s.nodes) claims (length claims) met → (first : W) → slice_get ws 0 ≡ Some first →
        (i : ℕ) (c : C) → slice_get claims i ≡ Some c → (IsFound i met → ⊥) → (schedule : List ℕ) (w : W) → run step (Ok first) schedule ≡ Ok w → meets w c ≡ false
    all_unmet looked first there i c at unfound schedule w led =
        let all = closed_run step IsWorld (IsTold step report most longest ws es s) (λ v m f. is_of (step v f) ((done m.0 m.1).met v m.2 f))
        (Ok first) (0, h.some, there) schedule in
        let here : IsWorld w = subst (IsOf step IsWorld (IsTold step report most longest ws es s)) led all in
        elim (looked i c (slice_get_within claims i c at) at) [
          | inl found ↦ absurd (unfound found)
          | inr none ↦ none here.0 w here.1 here.2
        ]
