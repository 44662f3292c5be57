-- If worlds have ranks, each fair schedule ends. From each world to which it leads, some free moves lead to a world with a rank.
use Rattle.std.proofs.Common.{◌≡◌, ◌≢◌, ℕ, zero, suc, ◌+◌, ◌-◌, ◌<◌, ◌≤◌, Bool, true, false, List, [], ◌∷◌, ◌++◌, length, Some, Result, Ok, Err, refl, sym, ap}
use Rattle.std.{proofs.Common.{◌∙◌, subst, arith}, specs.List.slice_get}
use mathlib.Core.Logic.{inl, inr, dite}
use native.Mathlib.Decide.{ℕ_discrete}
use Rattle.world_search.{specs.{Lists.IsIn, Systems.run}, proofs.{Closed.run-append, Lists.get_low}}
use Rattle.fair_ends.specs.{declared.rank.Rank.Rank, Fair.{AreRight, EndsUnder, IsBehind, IsEnd, IsFair, LeadBy, Makes, first_of}, Private.Ranks.AreRanked}
use Rattle.fair_ends.{specs.Private.Ranks.Leads, proofs.Ahead.{Passed, led_append, many, many_append, many_first, many_in, none_many, passed, taken}}

module _ {W E : Type 0} (entry : W → ℕ → Result W E) (Free : W → ℕ → Type 0) (step : W → ℕ → Result W E) (Rests : W → Type 0) (most : ℕ)
    (ws : List W) (ranks : List Rank) (ranked : AreRanked entry Free step Rests most ws ranks) (right : AreRight entry Free Rests)
    (first : W) (s : ℕ → ℕ) (fair : IsFair most s) where
  -- where the first n entries lead
  abbrev pos : ℕ → Result W E
  pos n = run entry (Ok first) (first_of s n)

  pos_next : (n : ℕ) (u : W) → pos n ≡ Ok u → pos (suc n) ≡ entry u (s n)
  pos_next n u is = run-append entry (Ok first) (first_of s n) (s n ∷ []) ∙ ap (λ x. run entry x (s n ∷ [])) is

  abbrev End : Type 0
  End = EndsUnder entry Rests first s

  end_fault : (n : ℕ) (e : E) → pos n ≡ Err e → End
  end_fault n e is = (n, subst (IsEnd entry Rests) (sym is) tt)

  -- after the first n entries, these free moves of numbers below `most` lead to the world v
  record At (n : ℕ) (ps : List ℕ) (v : W) : Type 0 where
    world : W
    is : pos n ≡ Ok world
    leads : LeadBy entry Free world ps v
    low : (f : ℕ) → 0 < many f ps → f < most

  -- ---- the next entry
  module _ (n : ℕ) (ps : List ℕ) (v : W) (at : At n ps v) where
    -- the next entry is one of the moves ahead
    take_on : (some : 0 < many (s n) ps) → (qs : List ℕ) × At (suc n) qs v × (suc (many (s n) qs) ≡ many (s n) ps) ×
        ((h : ℕ) → many h qs ≤ many h ps) × (suc (length qs) ≡ length ps)
    take_on some =
        let t = taken entry Free right.free ps at.world v (s n) at.leads some in (
          t.rest,
          record {
            world = t.next;
            is = pos_next n at.world at.is ∙ t.goes;
            leads = t.leads;
            low = λ f there. let fewer = t.others f in at.low f (omega arith);
          },
          t.one,
          t.others,
          t.shorter,
        )

    -- the next entry leads on from v
    pass_on : (none : many (s n) ps ≡ 0) (z : W) → entry v (s n) ≡ Ok z → At (suc n) ps z
    pass_on none z goes =
        let p : Passed entry Free ps (entry at.world (s n)) (Ok z) =
        subst (Passed entry Free ps (entry at.world (s n))) goes (passed entry Free right.free ps at.world v (s n) at.leads none) in record {
          world = p.0;
          is = pos_next n at.world at.is ∙ p.1;
          leads = p.2;
          low = at.low;
        }

    -- the next entry ends in a fault at v
    pass_fault : (none : many (s n) ps ≡ 0) (e : E) → entry v (s n) ≡ Err e → End
    pass_fault none e goes =
        let p : Passed entry Free ps (entry at.world (s n)) (Err e) =
        subst (Passed entry Free ps (entry at.world (s n))) goes (passed entry Free right.free ps at.world v (s n) at.leads none) in
        end_fault (suc n) e (pos_next n at.world at.is ∙ p)

  -- ---- where the free moves lead to a world at rest
  abbrev Settles : ℕ → Type 0
  Settles l = (n : ℕ) (ps : List ℕ) (v : W) → At n ps v → length ps ≤ l → Rests v → End

  at_once : (n : ℕ) (v : W) → At n [] v → Rests v → End
  at_once n v at rests = (n, subst (IsEnd entry Rests) (sym (at.is ∙ ap Ok at.leads)) rests)

  -- the next entry is one of the moves ahead, or leads on to a world at rest
  settle_by : (l : ℕ) → Settles l → (n : ℕ) (ps : List ℕ) (v : W) → At n ps v → length ps ≤ suc l → Rests v →
      ((z : W) → At (suc n) ps z → Rests z → many (s n) ps ≡ 0 → End) → (m : ℕ) → many (s n) ps ≡ m → End
  settle_by l less n ps v at short rests other zero is =
      let on = right.rest v (s n) rests in other on.0 (pass_on n ps v at is on.0 on.1) on.2 is
  settle_by l less n ps v at short rests other (suc m) is =
      let t = take_on n ps v at (omega arith) in less (suc n) t.0 v t.1 (let a = t.4 in omega arith) rests

  -- the first of the moves ahead comes d entries later
  settle_waits : (l : ℕ) → Settles l → (d n f : ℕ) (ps : List ℕ) (v : W) → At n ps v → length ps ≤ suc l → 0 < many f ps → Rests v → s (n + d) ≡ f → End
  settle_waits l less zero n f ps v at short some rests comes =
      settle_by l less n ps v at short rests
      (λ z on there none.
      let here : s n ≡ f = subst (λ k. s k ≡ f) (let same : n + 0 ≡ n = omega arith in same) comes in
      let no : many f ps ≡ 0 = subst (λ k. many k ps ≡ 0) here none in absurd (omega arith))
      (many (s n) ps) refl
  settle_waits l less (suc d) n f ps v at short some rests comes =
      settle_by l less n ps v at short rests
      (λ z on there none.
      settle_waits l less d (suc n) f ps z on short some there
      (subst (λ k. s k ≡ f) (let same : n + suc d ≡ suc n + d = omega arith in same) comes))
      (many (s n) ps) refl

  settles : (l : ℕ) → Settles l
  settles zero n [] v at short rests = at_once n v at rests
  settles zero n (f ∷ fs) v at short rests = absurd (omega arith)
  settles (suc l) n [] v at short rests = at_once n v at rests
  settles (suc l) n (f ∷ fs) v at short rests =
      let some : 0 < many f (f ∷ fs) = many_first f fs in
      let m = fair f n (at.low f some) in
      let later : m.0 ≡ n + (m.0 - n) = omega arith in
      settle_waits l (settles l) (m.0 - n) n f (f ∷ fs) v at short some rests (subst (λ k. s k ≡ f) later m.2)

  -- ---- where the free moves lead to a world with a rank
  -- the number and the rank of a world
  record Has (v : W) : Type 0 where
    number : ℕ
    rank : Rank
    world_is : slice_get ws number ≡ Some v
    rank_is : slice_get ranks number ≡ Some rank

  end_quiet : (n : ℕ) (ps : List ℕ) (v : W) → At n ps v → (h : Has v) → h.rank.quiet ≡ true → End
  end_quiet n ps v at h quiet = settles (length ps) n ps v at (omega arith) ((ranked h.number h.rank v h.rank_is h.world_is).rests quiet)

  -- the schedule ends from each world of a rank below r, whatever led there
  abbrev Reaches : ℕ → Type 0
  Reaches r = (n : ℕ) (ps : List ℕ) (v : W) → At n ps v → (h : Has v) → h.rank.rank < r → End

  -- the schedule ends from each world of at most this rank with this helpful fiber, if fewer than c of the moves ahead are the helpful fiber's
  abbrev Helped : ℕ → ℕ → ℕ → Type 0
  Helped r helper c = (n : ℕ) (ps : List ℕ) (v : W) → At n ps v → (h : Has v) → h.rank.rank ≤ r → h.rank.helper ≡ helper → many helper ps < c → End

  module _ (r : ℕ) (lower : Reaches r) (helper c : ℕ) (less : Helped r helper c) where
    -- the schedule ends after an entry of another fiber, at a world of at most this rank with this helpful fiber
    abbrev Again : ℕ → Type 0
    Again n = (qs : List ℕ) (x : W) → At (suc n) qs x → (k : Has x) → k.rank.rank ≤ r → k.rank.helper ≡ helper → many helper qs ≤ c → s n ≢ helper → End

    module _ (n : ℕ) (ps : List ℕ) (v : W) (at : At n ps v) (h : Has v) (low : h.rank.rank ≤ r) (helps : h.rank.helper ≡ helper)
        (few : many helper ps ≤ c) (again : Again n) where
      -- the next entry is a move ahead
      ahead : 0 < many (s n) ps → End
      ahead some =
          let t = take_on n ps v at some in
          let one = t.2 in
          dite (ℕ_discrete (s n) helper)
          (λ is.
          let fewer : suc (many helper t.0) ≡ many helper ps = subst (λ i. suc (many i t.0) ≡ many i ps) is one in
          less (suc n) t.0 v t.1 h low helps (omega arith))
          (λ isnt. let other = t.3 helper in again t.0 v t.1 h low helps (omega arith) isnt)

      low_all : (made free : List ℕ) → ((g : ℕ) → IsIn g made → g < most) → ((g : ℕ) → IsIn g free → IsIn g made) → (f : ℕ) →
          0 < many f (ps ++ free) → (i : ℕ) → many f ps ≡ i → f < most
      low_all made free are among f some zero is = let sum = many_append f ps free in are f (among f (many_in f free (omega arith)))
      low_all made free are among f some (suc i) is = at.low f (omega arith)

      -- the next entry is a step, followed by free moves
      onward : (made : List ℕ) → Makes entry Free step most v (s n) made → many (s n) ps ≡ 0 → (z : W) → entry v (s n) ≡ Ok z →
          IsBehind entry Free made (Ok z) (step v (s n)) → (y : Result W E) → step v (s n) ≡ y →
          Leads entry Free step Rests most ws ranks h.rank (s n) made y → End
      onward made makes none z goes free (Ok x) to leads =
          let z_at = pass_on n ps v at none z goes in
          let same : free.1 ≡ x = (let both : Ok free.1 ≡ Ok x = sym free.3 ∙ to in cc) in
          let led : LeadBy entry Free z free.0 x = subst (λ t. LeadBy entry Free z free.0 t) same free.2 in
          let all = ps ++ free.0 in
          let on : At (suc n) all x = record {
            world = z_at.world;
            is = z_at.is;
            leads = led_append entry Free ps free.0 z_at.world z x z_at.leads led;
            low = λ f there. low_all made free.0 makes.few free.4 f there (many f ps) refl;
          } in
          let there : Has x = record { number = leads.0; rank = leads.1; world_is = leads.2; rank_is = leads.3 } in
          elim leads.4 [
            | inl quiet ↦ end_quiet (suc n) all x on there quiet
            | inr falls ↦ elim falls [
              | inl down ↦ lower (suc n) all x on there (omega arith)
              | inr stays ↦
                  let none_free : many helper free.0 ≡ 0 = none_many helper free.0
                  (λ i. stays.3 (subst (λ k. IsIn k made) (sym helps) (free.4 helper i))) in
                  let sum = many_append helper ps free.0 in
                  let rank_same = stays.0 in
                  again all x on there (omega arith) (stays.1 ∙ helps) (omega arith) (λ is. stays.2 (is ∙ sym helps))
            ]
          ]
      onward made makes none z goes free (Err e) to leads = let no : Ok free.1 ≡ Err e = sym free.3 ∙ to in absurd (cc)

      step_on : h.rank.quiet ≡ false → many (s n) ps ≡ 0 → (y : Result W E) → entry v (s n) ≡ y → End
      step_on q none (Ok z) goes =
          let l = (ranked h.number h.rank v h.rank_is h.world_is).leads q (s n) in
          onward l.0 l.1 none z goes (subst (λ y. IsBehind entry Free l.0 y (step v (s n))) goes l.1.free) (step v (s n)) refl l.2
      step_on q none (Err e) goes = pass_fault n ps v at none e goes

      moves : h.rank.quiet ≡ false → (m : ℕ) → many (s n) ps ≡ m → End
      moves q zero is = step_on q is (entry v (s n)) refl
      moves q (suc m) is = ahead (omega arith)

      by : (b : Bool) → h.rank.quiet ≡ b → End
      by true is = end_quiet n ps v at h is
      by false is = moves is (many (s n) ps) refl

    -- the helpful fiber comes d entries later
    waits : (d n : ℕ) (ps : List ℕ) (v : W) → At n ps v → (h : Has v) → h.rank.rank ≤ r → h.rank.helper ≡ helper → many helper ps ≤ c →
        s (n + d) ≡ helper → End
    waits zero n ps v at h low helps few comes =
        by n ps v at h low helps few
        (λ qs x on k down helping fewer isnt. absurd (isnt (subst (λ i. s i ≡ helper) (let same : n + 0 ≡ n = omega arith in same) comes)))
        h.rank.quiet refl
    waits (suc d) n ps v at h low helps few comes =
        by n ps v at h low helps few
        (λ qs x on k down helping fewer isnt.
        waits d (suc n) qs x on k down helping fewer (subst (λ i. s i ≡ helper) (let same : n + suc d ≡ suc n + d = omega arith in same) comes))
        h.rank.quiet refl

    -- the helpful fiber comes again
    comes_again : (n : ℕ) (ps : List ℕ) (v : W) → At n ps v → (h : Has v) → h.rank.rank ≤ r → h.rank.helper ≡ helper → many helper ps ≤ c →
        (b : Bool) → h.rank.quiet ≡ b → End
    comes_again n ps v at h low helps few true is = end_quiet n ps v at h is
    comes_again n ps v at h low helps few false is =
        let m = fair h.rank.helper n ((ranked h.number h.rank v h.rank_is h.world_is).helped is) in
        let later : m.0 ≡ n + (m.0 - n) = omega arith in
        waits (m.0 - n) n ps v at h low helps few (subst (λ k. s k ≡ h.rank.helper) later m.2 ∙ helps)

  helped : (r : ℕ) → Reaches r → (helper c : ℕ) → Helped r helper c
  helped r lower helper zero n ps v at h low helps few = absurd (omega arith)
  helped r lower helper (suc c) n ps v at h low helps few =
      comes_again r lower helper c (helped r lower helper c) n ps v at h low helps (omega arith) h.rank.quiet refl

  reaches : (r : ℕ) → Reaches r
  reaches zero n ps v at h low = absurd (omega arith)
  reaches (suc r) n ps v at h low = helped r (reaches r) h.rank.helper (suc (many h.rank.helper ps)) n ps v at h (omega arith) refl (omega arith)

  pub all_end : slice_get ws 0 ≡ Some first → 0 < length ranks → End
  all_end at some =
      let a = get_low ranks 0 some in
      let here : At 0 [] first = record { world = first; is = refl; leads = refl; low = λ f there. absurd (omega arith) } in
      reaches (suc a.0.rank) 0 [] first here record { number = 0; rank = a.0; world_is = at; rank_is = a.1 } (omega arith)
