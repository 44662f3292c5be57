-- What a search of a reduced system shows of the full one: if each entry has some free moves after it, both systems have the same faults and the same settled
-- reports.
use Rattle.std.proofs.Common.{◌≡◌, ℕ, zero, suc, ◌<◌, ◌≤◌, List, [], ◌∷◌, ◌++◌, length, Result, Ok, Err, refl, sym, ap, ◌∙◌, subst, arith, inl, inr}
use mathlib.Core.Logic.{◌⊎◌, dite}
use native.Mathlib.Decide.{ℕ_discrete}
use Rattle.world_search.specs.declared.answers.Answer.{Answer}
use Rattle.world_search.specs.declared.landings.Landing.{Landing}
use Rattle.world_search.specs.declared.landings.Landing.TheVariants as to
use Rattle.world_search.specs.Answers.{LeadsTo, Tells, IsAnswered, IsCovered, IsEnd}
use Rattle.world_search.specs.Free.{Commutes, AreEarly, AreFree, Leads, Leaps, AreGrowing, Reduces}
use Rattle.world_search.specs.Free.Leads.{Here, On}
use Rattle.world_search.specs.Systems.{run, reported, IsSettled}
use Rattle.world_search.proofs.Closed.{run-append}
use Rattle.world_search.specs.declared.landings.Landing.TheVariants as to

-- a fault stays
pub run_fault : {W E : Type 0} (step : W → ℕ → Result W E) (e : E) (s : List ℕ) → run step (Err e) s ≡ Err e
run_fault step e [] = refl
run_fault step e (f ∷ s) = run_fault step e s

-- two systems report the same of a world
reported_same : {W E R : Type 0} (one other : W → ℕ → Result W E) (report : W → R) (x : Result W E) → reported one report x ≡ reported other report x
reported_same one other report (Ok w) = refl
reported_same one other report (Err e) = refl

module _ {W E R : Type 0} (step : W → ℕ → Result W E) (report : W → R) where
  reported_ok : (y : Result W E) (r : R) → reported step report y ≡ Ok r → (x : W) × (y ≡ Ok x) × (report x ≡ r)
  reported_ok (Ok x) r h = (x, refl, (let q : reported step report (Ok x) ≡ Ok r = h in cc))
  reported_ok (Err e) r h = absurd (cc)

  -- a schedule leads from a settled world to a settled world of the same report
  settled_run : (w x : W) (s : List ℕ) → run step (Ok w) s ≡ Ok x → IsSettled step report w → IsSettled step report x × (report x ≡ report w)
  settled_run w x s q h =
      let here : reported step report (Ok x) ≡ Ok (report w) = ap (reported step report) (sym q) ∙ h s in
      let same : report x ≡ report w = cc in (
        λ t. ap (λ y. reported step report (run step y t)) (sym q) ∙ ap (reported step report) (sym (run-append step (Ok w) s t)) ∙ h (s ++ t) ∙
            ap Ok (sym same),
        same,
      )

  module _ (size : R → ℕ) (growing : AreGrowing step report size) where
    abbrev Grown : W → W → Type 0
    Grown w x = (report x ≡ report w) ⊎ (size (report w) < size (report x))

    grown_grown : (w y x : W) → Grown w y → Grown y x → Grown w x
    grown_grown w y x (inl a) (inl b) = inl (b ∙ a)
    grown_grown w y x (inl a) (inr b) = let s = ap size a in inr (omega arith)
    grown_grown w y x (inr a) (inl b) = let s = ap size b in inr (omega arith)
    grown_grown w y x (inr a) (inr b) = inr (omega arith)

    grown_from : (s : List ℕ) (w x : W) (f : ℕ) (y : Result W E) → step w f ≡ y → ((v : W) → run step (Ok v) s ≡ Ok x → Grown v x) →
        run step y s ≡ Ok x → Grown w x
    grown_from s w x f (Ok y) q rest r = grown_grown w y x (growing w f y q) (rest y r)
    grown_from s w x f (Err e) q rest r = let stuck : run step (Err e) s ≡ Err e = run_fault step e s in absurd (cc)

    -- the reports grow along schedules
    pub grown : (s : List ℕ) (w x : W) → run step (Ok w) s ≡ Ok x → Grown w x
    grown [] w x r = let same : w ≡ x = cc in inl (ap report (sym same))
    grown (f ∷ s) w x r = grown_from s w x f (step w f) refl (λ v. grown s v x) r

-- free moves can be made early
pub early : {W E : Type 0} (step : W → ℕ → Result W E) (Free : W → ℕ → Type 0) → AreFree step Free → AreEarly step Free
early step Free free = record { goes = free.goes; commutes = λ w f x h q g apart. inr (free.commutes w f x h q g apart) }

module _ {W E : Type 0} (step : W → ℕ → Result W E) where
  -- some entries after y lead to where at most n entries lead from x
  abbrev pub Comes : W → Result W E → ℕ → Type 0
  Comes x y n = (t : List ℕ) × (more : List ℕ) × (length t ≤ n) × (run step y more ≡ run step (Ok x) t)

  -- an entry that changes nothing is left out
  pub idle_left_out : (s : List ℕ) (w x : W) (y : Result W E) → y ≡ Ok w → Comes x (run step (Ok w) s) (length s) → Comes x (run step y s) (suc (length s))
  idle_left_out s w x y idle h = (h.0, h.1, omega (arith, h.2), ap (λ z. run step (run step z s) h.1) idle ∙ h.3)

  module _ (Free : W → ℕ → Type 0) (free : AreEarly step Free) where
    ahead_from : (s : List ℕ) (x : W) (f g : ℕ) (y : Result W E) → ((y z : W) → Free y f → step y f ≡ Ok z → Comes z (run step (Ok y) s) (length s))
        → Commutes step Free f x g y → Comes x (run step y s) (suc (length s))
    ahead_from s x f g (Ok y) rest h =
        let i = rest y h.1 h.0 h.2 in
        (g ∷ i.0, i.1, omega (arith, i.2), i.3 ∙ ap (λ z. run step z i.0) (sym h.3))
    ahead_from s x f g (Err e) rest h = (g ∷ s, [], omega arith, ap (λ z. run step z s) (sym h))

    -- one free move made earlier
    ahead : (s : List ℕ) (w x : W) (f : ℕ) → Free w f → step w f ≡ Ok x → Comes x (run step (Ok w) s) (length s)
    ahead [] w x f h q = ([], f ∷ [], omega arith, q)
    ahead (g ∷ s) w x f h q = dite (ℕ_discrete g f)
        (λ is. (s, [], omega arith, ap (λ y. run step y s) (subst (λ n. step w n ≡ Ok x) (sym is) q)))
        (λ isnt. elim (free.commutes w f x h q g isnt) [
          | inl idle ↦ idle_left_out s w x (step w g) idle (ahead s w x f h q)
          | inr pair ↦ ahead_from s x f g (step w g) (λ y z. ahead s y z f) pair
        ])

    -- several free moves made earlier
    pub ahead_led : (w v : W) → Leads step Free w v → (s : List ℕ) → Comes v (run step (Ok w) s) (length s)
    ahead_led w v (Here a b same) s = (s, [], omega arith, ap (λ x. run step (Ok x) s) same)
    ahead_led w v (On a f x b h q on) s =
        let one = ahead s a x f h q in
        let rest = ahead_led x b on one.0 in (
          rest.0,
          one.1 ++ rest.1,
          omega (arith, rest.2, one.2),
          run-append step (run step (Ok a) s) one.1 rest.1 ∙ ap (λ y. run step y rest.1) one.3 ∙ rest.3,
        )

    leads_run : (w v : W) → Leads step Free w v → (s : List ℕ) × (run step (Ok w) s ≡ Ok v)
    leads_run w v (Here a b same) = ([], ap Ok same)
    leads_run w v (On a f x b h q on) = let rest = leads_run x b on in (f ∷ rest.0, ap (λ y. run step y rest.0) q ∙ rest.1)

    module _ (leap : W → ℕ → Result W E) (leaps : (w : W) (f : ℕ) → Leaps step Free (step w f) (leap w f)) where
      -- some entries after y lead to where a schedule of the reduced system leads from w
      abbrev Overtakes : W → Result W E → Type 0
      Overtakes w y = (t : List ℕ) × (more : List ℕ) × (run step y more ≡ run leap (Ok w) t)

      overtaken_next : (n : ℕ) (w : W) (f : ℕ) (s : List ℕ) → length s ≤ n → ((v : W) (t : List ℕ) → length t ≤ n → Overtakes v (run step (Ok v) t))
          → (y : Result W E) → Leaps step Free y (leap w f) → Overtakes w (run step y s)
      overtaken_next n w f s long rest (Ok x) h =
          let one = ahead_led x h.0 h.1 s in
          let on = rest h.0 one.0 (omega (arith, one.2)) in (
            f ∷ on.0,
            one.1 ++ on.1,
            run-append step (run step (Ok x) s) one.1 on.1 ∙ ap (λ y. run step y on.1) one.3 ∙ on.2 ∙ ap (λ y. run leap y on.0) (sym h.2),
          )
      overtaken_next n w f s long rest (Err e) h = (f ∷ [], [], run_fault step e s ∙ sym h)

      overtaken : (n : ℕ) (w : W) (s : List ℕ) → length s ≤ n → Overtakes w (run step (Ok w) s)
      overtaken n w [] long = ([], [], refl)
      overtaken zero w (f ∷ s) long = absurd (omega arith)
      overtaken (suc n) w (f ∷ s) long = overtaken_next n w f s (omega arith) (overtaken n) (step w f) (leaps w f)

      pub overtakes : (w : W) (s : List ℕ) → Overtakes w (run step (Ok w) s)
      overtakes w s = overtaken (length s) w s (omega arith)

      -- a schedule of the reduced system is one of the full system, in which each free move is an entry
      pub unfolded_next : (y : Result W E) (z : Result W E) → Leaps step Free y z → (s : List ℕ) × (run step y s ≡ z)
      unfolded_next (Ok x) z h = let on = leads_run x h.0 h.1 in (on.0, on.1 ∙ sym h.2)
      unfolded_next (Err e) z h = ([], sym h)

      pub unfolded : (x : Result W E) (t : List ℕ) → (s : List ℕ) × (run step x s ≡ run leap x t)
      unfolded x [] = ([], refl)
      unfolded (Err e) (f ∷ t) = ([], sym (run_fault leap e (f ∷ t)))
      unfolded (Ok w) (f ∷ t) =
          let one = unfolded_next (step w f) (leap w f) (leaps w f) in
          let rest = unfolded (leap w f) t in
          (f ∷ (one.0 ++ rest.0), run-append step (step w f) one.0 rest.0 ∙ ap (λ y. run step y rest.0) one.1 ∙ rest.1)

      -- each entry of the reduced system is one of the full system with some free moves after it
      pub reduces : Reduces step leap
      reduces = record { overtakes = overtakes; unfolded = unfolded }

module _ {W E : Type 0} (step leap : W → ℕ → Result W E) (red : Reduces step leap) where
  module _ {R : Type 0} (report : W → R) where
    pub settled_down : (w : W) → IsSettled step report w → IsSettled leap report w
    settled_down w h t =
        let on = red.unfolded (Ok w) t in
        reported_same leap step report (run leap (Ok w) t) ∙ ap (reported step report) (sym on.1) ∙ h on.0

    module _ (size : R → ℕ) (growing : AreGrowing step report size) where
      up_at : (w : W) (s more t : List ℕ) (y : Result W E) → run step (Ok w) s ≡ y → run step y more ≡ run leap (Ok w) t →
          reported leap report (run leap (Ok w) t) ≡ Ok (report w)
          → reported step report y ≡ Ok (report w)
      up_at w s more t (Ok x) led on same =
          let v = reported_ok leap report (run leap (Ok w) t) (report w) same in
          let sizes : size (report v.0) ≡ size (report w) = ap size v.2 in
          elim (grown step report size growing s w x led) [
            | inl stays ↦ ap Ok stays
            | inr more_here ↦ elim (grown step report size growing more x v.0 (on ∙ v.1)) [
              | inl stays ↦ let still = ap size stays in absurd (omega arith)
              | inr more_there ↦ absurd (omega arith)
            ]
          ]
      up_at w s more t (Err e) led on same =
          let fault : run leap (Ok w) t ≡ Err e = sym on ∙ run_fault step e more in
          let no : reported leap report (Err e) ≡ Ok (report w) = ap (reported leap report) (sym fault) ∙ same in
          absurd (cc)

      -- a world that is settled in the reduced system is settled in the full one
      pub settled_up : (w : W) → IsSettled leap report w → IsSettled step report w
      settled_up w h s = let o = red.overtakes w s in up_at w s o.1 o.0 (run step (Ok w) s) refl o.2 (h o.0)

      module _ (ws : List W) (es : List E) where
        -- the schedule of an answer, with each free move as an entry
        pub leads_up : (first : W) (s t : List ℕ) (l : Landing) → run step (Ok first) s ≡ run leap (Ok first) t →
            LeadsTo leap report ws es first t l → LeadsTo step report ws es first s l
        leads_up first s t (to.World j) same h = (h.0, h.1, same ∙ h.2, settled_up h.0 h.3)
        leads_up first s t (to.Fault j) same h = (h.0, h.1, same ∙ h.2)

        module _ (answers : List Answer) where
          tells_up : (l : Landing) (v w : W) → report v ≡ report w → Tells leap report ws es l (Ok v) → Tells step report ws es l (Ok w)
          tells_up (to.World j) v w same h = (h.0, h.1, h.2 ∙ same)
          tells_up (to.Fault j) v w same h = absurd h

          tells_fault : (l : Landing) (e : E) → Tells leap report ws es l (Err e) → Tells step report ws es l (Err e)
          tells_fault (to.World j) e h = absurd h
          tells_fault (to.Fault j) e h = h

          answered_up : (v w : W) → report v ≡ report w → IsAnswered leap report ws es answers (Ok v) → IsAnswered step report ws es answers (Ok w)
          answered_up v w same h = (h.0, h.1, tells_up h.0.end v w same h.2)

          answered_fault : (e : E) → IsAnswered leap report ws es answers (Err e) → IsAnswered step report ws es answers (Err e)
          answered_fault e h = (h.0, h.1, tells_fault h.0.end e h.2)

          covered_at : (y z : Result W E) (more : List ℕ) → run step y more ≡ z → IsCovered leap report ws es answers z →
              IsCovered step report ws es answers y
          covered_at (Ok w) z more on h = λ settled.
              let v = reported_ok step report z (report w) (ap (reported step report) (sym on) ∙ settled more) in
              let still = settled_run step report w v.0 more (on ∙ v.1) settled in
              let told : IsCovered leap report ws es answers (Ok v.0) = subst (IsCovered leap report ws es answers) v.1 h in
              answered_up v.0 w v.2 (told (settled_down v.0 still.0))
          covered_at (Err e) z more on h =
              let fault : z ≡ Err e = sym on ∙ run_fault step e more in
              let told : IsCovered leap report ws es answers (Err e) = subst (IsCovered leap report ws es answers) fault h in
              answered_fault e told

          -- answers that cover all schedules of the reduced system cover those of the full one
          pub covers : (first : W) → ((t : List ℕ) → IsCovered leap report ws es answers (run leap (Ok first) t)) → (s : List ℕ) →
              IsCovered step report ws es answers (run step (Ok first) s)
          covers first h s = let o = red.overtakes first s in covered_at (run step (Ok first) s) (run leap (Ok first) o.0) o.1 o.2 (h o.0)

          ends_up : (y : Result W E) → IsEnd leap report ws es answers y → IsEnd step report ws es answers y
          ends_up (Ok w) h = (settled_up w h.0, answered_up w w refl h.1)
          ends_up (Err e) h = answered_fault e h

          -- if some entries lead from each world of the reduced system to an answer, some do from each world of the full one
          pub goes_onward : (first : W) → ((t : List ℕ) → (more : List ℕ) × IsEnd leap report ws es answers (run leap (Ok first) (t ++ more))) →
              (s : List ℕ) → (more : List ℕ) × IsEnd step report ws es answers (run step (Ok first) (s ++ more))
          goes_onward first h s =
              let o = red.overtakes first s in
              let on = h o.0 in
              let rest = red.unfolded (run leap (Ok first) o.0) on.0 in
              let led : run leap (Ok first) (o.0 ++ on.0) ≡ run step (Ok first) (s ++ (o.1 ++ rest.0)) =
              run-append leap (Ok first) o.0 on.0 ∙ sym rest.1 ∙ ap (λ y. run step y rest.0) (sym o.2) ∙
              sym (run-append step (run step (Ok first) s) o.1 rest.0) ∙ sym (run-append step (Ok first) s (o.1 ++ rest.0)) in
              (o.1 ++ rest.0, ends_up (run step (Ok first) (s ++ (o.1 ++ rest.0))) (subst (IsEnd leap report ws es answers) led on.1))
