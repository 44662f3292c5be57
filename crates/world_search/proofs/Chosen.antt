-- If the chosen entries at a world are those of a set of fibers that is apart, one of which leads to a smaller world, they get at least as far as any schedule.
use Rattle.std.proofs.Common.{◌≡◌, ◌⊎◌, ℕ, zero, suc, ◌≤◌, Bool, true, false, List, [], ◌∷◌, ◌++◌, length, Result, Ok, Err}
use Rattle.std.proofs.Common.{refl, sym, ap, ◌∙◌, subst, arith, inl, inr, length-append}
use Rattle.world_search.specs.Free.{AreEarly, Leaps, Reduces}
use Rattle.world_search.specs.Chosen.{AreApart, IsChosen, IsPart, Meet}
use Rattle.world_search.specs.Chosen.IsChosen.{Part, Whole}
use Rattle.world_search.specs.Systems.{run}
use Rattle.world_search.proofs.Closed.{run-append}
use Rattle.world_search.proofs.Free.{Comes, ahead_led, idle_left_out, run_fault, unfolded_next}

module _ {W E : Type 0} (step : W → ℕ → Result W E) where
  -- ---- a set of fibers
  -- all of these entries are of fibers outside T
  abbrev AreOut : (ℕ → Bool) → List ℕ → Type 0
  AreOut T [] = Unit {0}
  AreOut T (g ∷ s) = (T g ≡ false) × AreOut T s

  -- the first entry of a fiber of T
  pub record FirstIn (T : ℕ → Bool) (s : List ℕ) : Type 0 where
    pub before : List ℕ
    pub first : ℕ
    pub rest : List ℕ
    pub is : s ≡ before ++ first ∷ rest
    pub out : AreOut T before
    pub in_it : T first ≡ true

  first_in : (T : ℕ → Bool) (s : List ℕ) → AreOut T s ⊎ FirstIn T s
  first_in T [] = inl tt
  first_in T (g ∷ s) = by (T g) refl (first_in T s)
    where
      by : (b : Bool) → T g ≡ b → AreOut T s ⊎ FirstIn T s → AreOut T (g ∷ s) ⊎ FirstIn T (g ∷ s)
      by true e rest = inr (record { before = []; first = g; rest = s; is = refl; out = tt; in_it = e })
      by false e (inl out) = inl (e, out)
      by false e (inr h) =
          inr (record { before = g ∷ h.before; first = h.first; rest = h.rest; is = ap (λ l. g ∷ l) h.is; out = (e, h.out); in_it = h.in_it })

  module _ (Holds : W → Type 0) (T : ℕ → Bool) (apart : AreApart step Holds T) where
    -- an entry of T, made first: the schedule leads where a shorter one leads from there, or the entries before it end in a fault
    abbrev Fronted : W → ℕ → List ℕ → List ℕ → Type 0
    Fronted w f before rest =
        ((t : List ℕ) × (length t ≤ length (before ++ rest)) × (run step (Ok w) (before ++ f ∷ rest) ≡ run step (step w f) t)) ⊎
        ((e : E) × (run step (Ok w) before ≡ Err e))

    fronted_ok : (w : W) (f g : ℕ) (before rest t : List ℕ) (y : W) → Holds w → T f ≡ true → T g ≡ false → step w g ≡ Ok y →
        length t ≤ length (before ++ rest) → run step (Ok y) (before ++ f ∷ rest) ≡ run step (step y f) t → (a : Result W E) → step w f ≡ a →
        (r : List ℕ) × (length r ≤ length (g ∷ (before ++ rest))) × (run step (Ok y) (before ++ f ∷ rest) ≡ run step a r)
    fronted_ok w f g before rest t y holds mine other goes short led (Ok x) is = elim (apart.meet w f g x holds mine other is) [
      | inl idle ↦
          let both : Ok y ≡ Ok w = sym goes ∙ idle in
          let same : y ≡ w = cc in
          (t, omega (arith, short), led ∙ ap (λ v. run step (step v f) t) same ∙ ap (λ a. run step a t) is)
      | inr pair ↦
          let met : Meet step f x g (Ok y) = subst (Meet step f x g) goes pair in
          (g ∷ t, omega (arith, short), led ∙ ap (λ a. run step a t) (met.1 ∙ sym met.2))
    ]
    fronted_ok w f g before rest t y holds mine other goes short led (Err e) is =
        (t, omega (arith, short), led ∙ ap (λ a. run step a t) (apart.faults w f g e y holds mine other is goes))

    fronted_by : (before rest : List ℕ) (w : W) (f g : ℕ) → Holds w → T g ≡ false → T f ≡ true → ((y : W) → Holds y → Fronted y f before rest) →
        (a : Result W E) → step w g ≡ a → Fronted w f (g ∷ before) rest
    fronted_by before rest w f g holds other mine next (Ok y) goes = elim (next y (apart.stays w g y holds other goes)) [
      | inl h ↦
          let on = fronted_ok w f g before rest h.0 y holds mine other goes h.1 h.2 (step w f) refl in
          inl (on.0, on.1, ap (λ a. run step a (before ++ f ∷ rest)) goes ∙ on.2)
      | inr h ↦ inr (h.0, ap (λ a. run step a before) goes ∙ h.1)
    ]
    fronted_by before rest w f g holds other mine next (Err e) goes = inr (e, ap (λ a. run step a before) goes ∙ run_fault step e before)

    fronted : (before rest : List ℕ) (w : W) (f : ℕ) → Holds w → AreOut T before → T f ≡ true → Fronted w f before rest
    fronted [] rest w f holds out mine = inl (rest, omega arith, refl)
    fronted (g ∷ before) rest w f holds out mine =
        fronted_by before rest w f g holds out.0 mine (λ y there. fronted before rest y f there out.1 mine) (step w g) refl

    -- an entry of T, made before entries of other fibers alone
    behind_from : (s : List ℕ) (w x : W) (f g : ℕ) → Holds w → T f ≡ true → T g ≡ false → step w f ≡ Ok x → (a : Result W E) → step w g ≡ a →
        ((y z : W) → Holds y → step y f ≡ Ok z → Comes step z (run step (Ok y) s) (length s)) → Comes step x (run step a s) (suc (length s))
    behind_from s w x f g holds mine other is a goes rest = elim (apart.meet w f g x holds mine other is) [
      | inl idle ↦ idle_left_out step s w x a (sym goes ∙ idle) (rest w x holds is)
      | inr pair ↦ by a goes (subst (Meet step f x g) goes pair)
    ]
      where
        by : (b : Result W E) → step w g ≡ b → Meet step f x g b → Comes step x (run step b s) (suc (length s))
        by (Ok y) to met =
            let i = rest y met.0 (apart.stays w g y holds other to) met.1 in
            (g ∷ i.0, i.1, omega (arith, i.2), i.3 ∙ ap (λ b. run step b i.0) (sym met.2))
        by (Err e) to met = (g ∷ s, [], omega arith, ap (λ b. run step b s) (sym met))

    behind : (s : List ℕ) (w x : W) (f : ℕ) → Holds w → AreOut T s → T f ≡ true → step w f ≡ Ok x → Comes step x (run step (Ok w) s) (length s)
    behind [] w x f holds out mine is = ([], f ∷ [], omega arith, is)
    behind (g ∷ s) w x f holds out mine is =
        behind_from s w x f g holds mine out.0 is (step w g) refl (λ y z there. behind s y z f there out.1 mine)

  -- ---- chosen entries
  module _ (Free : W → ℕ → Type 0) (free : AreEarly step Free) (leap chosen : W → ℕ → Result W E) (size : W → ℕ)
      (leaps : (w : W) (f : ℕ) → Leaps step Free (step w f) (leap w f)) (choice : (w : W) → IsChosen step leap chosen size w) where
    -- some entries after y lead to where a schedule of chosen entries leads from w
    abbrev pub Reached : W → Result W E → Type 0
    Reached w y = (t : List ℕ) × (more : List ℕ) × (run step y more ≡ run chosen (Ok w) t)

    -- this holds of schedules of at most n entries, from all worlds, or from those of at most size m
    abbrev Shorter : ℕ → Type 0
    Shorter n = (v : W) (t : List ℕ) → length t ≤ n → Reached v (run step (Ok v) t)

    abbrev Smaller : ℕ → ℕ → Type 0
    Smaller n m = (v : W) (t : List ℕ) → length t ≤ n → size v ≤ m → Reached v (run step (Ok v) t)

    -- from the world behind a chosen entry
    reached_next : (w : W) (f : ℕ) (s : List ℕ) → chosen w f ≡ leap w f → (y : Result W E) → Leaps step Free y (leap w f) →
        ((x : W) (v : W) (one : Comes step v (run step (Ok x) s) (length s)) → leap w f ≡ Ok v → Reached v (run step (Ok v) one.0)) →
        Reached w (run step y s)
    reached_next w f s made (Ok x) h rest =
        let one = ahead_led step Free free x h.0 h.1 s in
        let on = rest x h.0 one h.2 in (
          f ∷ on.0,
          one.1 ++ on.1,
          run-append step (run step (Ok x) s) one.1 on.1 ∙ ap (λ y. run step y on.1) one.3 ∙ on.2 ∙ ap (λ y. run chosen y on.0) (sym (made ∙ h.2)),
        )
    reached_next w f s made (Err e) h rest = (f ∷ [], [], run_fault step e s ∙ sym (made ∙ h))

    module _ (n : ℕ) (shorter : (k : ℕ) → suc k ≤ n → Shorter k) where
      whole : (w : W) (s : List ℕ) → length s ≤ n → ((f : ℕ) → chosen w f ≡ leap w f) → Reached w (run step (Ok w) s)
      whole w [] short made = ([], [], refl)
      whole w (f ∷ s) short made =
          reached_next w f s (made f) (step w f) (leaps w f) (λ x v one goes. shorter (length s) short v one.0 one.2)

      module _ (w : W) (part : IsPart step leap chosen size w) (m : ℕ) (low : size w ≤ suc m) (smaller : Smaller n m) where
        -- no entry is of the set: the seed goes ahead
        seeded_by : (s : List ℕ) → length s ≤ n → AreOut part.T s → (y : Result W E) → step w part.seed ≡ y → Leaps step Free y (leap w part.seed) →
            Reached w (run step (Ok w) s)
        seeded_by s short out (Ok x) is h =
            let one = behind part.Holds part.T part.apart s w x part.seed part.holds out part.in_it is in
            let two = ahead_led step Free free x h.0 h.1 one.0 in
            let both : Ok h.0 ≡ Ok part.next = sym h.2 ∙ part.goes in
            let same : h.0 ≡ part.next = cc in
            let less = part.smaller in
            let fits : size h.0 ≤ m = (let e = ap size same in omega (arith, less, low, e)) in
            let on = smaller h.0 two.0 (omega (arith, one.2, two.2, short)) fits in (
              part.seed ∷ on.0,
              one.1 ++ (two.1 ++ on.1),
              run-append step (run step (Ok w) s) one.1 (two.1 ++ on.1) ∙ ap (λ y. run step y (two.1 ++ on.1)) one.3
                  ∙ run-append step (run step (Ok x) one.0) two.1 on.1 ∙ ap (λ y. run step y on.1) two.3 ∙ on.2
                  ∙ ap (λ y. run chosen y on.0) (sym (part.made part.seed part.in_it ∙ h.2)),
            )
        seeded_by s short out (Err e) is h = let no : Err e ≡ Ok part.next = sym h ∙ part.goes in absurd (cc)

        seeded : (s : List ℕ) → length s ≤ n → AreOut part.T s → Reached w (run step (Ok w) s)
        seeded s short out = seeded_by s short out (step w part.seed) refl (leaps w part.seed)

        parted : (s : List ℕ) → length s ≤ n → AreOut part.T s ⊎ FirstIn part.T s → Reached w (run step (Ok w) s)
        parted s short (inl out) = seeded s short out
        parted s short (inr h) =
            let long = length-append h.before (h.first ∷ h.rest) in
            let less = length-append h.before h.rest in
            let many = ap length h.is in
            elim (fronted part.Holds part.T part.apart h.before h.rest w h.first part.holds h.out h.in_it) [
              | inl front ↦
                  let at : run step (Ok w) s ≡ run step (step w h.first) front.0 = ap (run step (Ok w)) h.is ∙ front.2 in
                  subst (Reached w) (sym at)
                  (reached_next w h.first front.0 (part.made h.first h.in_it) (step w h.first) (leaps w h.first)
                  (λ x v one goes. shorter (length front.0) (let fewer = front.1 in omega arith) v one.0 one.2))
              | inr fault ↦
                  let stuck : run step (Ok w) s ≡ run step (Ok w) h.before =
                  ap (run step (Ok w)) h.is ∙ run-append step (Ok w) h.before (h.first ∷ h.rest) ∙ ap (λ y. run step y (h.first ∷ h.rest)) fault.1 ∙
                  run_fault step fault.0 (h.first ∷ h.rest) ∙ sym fault.1 in
                  subst (Reached w) (sym stuck) (seeded h.before (omega arith) h.out)
            ]

      at_size : (m : ℕ) → Smaller n m
      at_size zero w s short low = elim (choice w) [
        | Whole made ↦ whole w s short made
        | Part part ↦ let less = part.smaller in absurd (omega arith)
      ]
      at_size (suc m) w s short low = elim (choice w) [
        | Whole made ↦ whole w s short made
        | Part part ↦ parted w part m low (at_size m) s short (first_in part.T s)
      ]

    reached_by : (n : ℕ) → (k : ℕ) → k ≤ n → Shorter k
    reached_by zero k low v s short = at_size zero (λ j less. absurd (omega arith)) (size v) v s (omega arith) (omega arith)
    reached_by (suc n) k low v s short =
        at_size (suc n) (λ j less. reached_by n j (omega arith)) (size v) v s (omega arith) (omega arith)

    -- after each schedule some entries lead to where chosen entries lead
    pub reached : (w : W) (s : List ℕ) → Reached w (run step (Ok w) s)
    reached w s = reached_by (length s) (length s) (omega arith) w s (omega arith)

    -- a schedule of chosen entries is one of all entries
    once : (w : W) (f : ℕ) → (s : List ℕ) × (run step (Ok w) s ≡ chosen w f)
    once w f = elim (choice w) [
      | Whole made ↦ leapt (made f)
      | Part part ↦ by part (part.T f) refl
    ]
      where
        leapt : chosen w f ≡ leap w f → (s : List ℕ) × (run step (Ok w) s ≡ chosen w f)
        leapt made =
            let on = unfolded_next step Free free leap leaps (step w f) (leap w f) (leaps w f) in
            (f ∷ on.0, on.1 ∙ sym made)

        by : (part : IsPart step leap chosen size w) (b : Bool) → part.T f ≡ b → (s : List ℕ) × (run step (Ok w) s ≡ chosen w f)
        by part true is = leapt (part.made f is)
        by part false is = ([], sym (part.others f is))

    pub unfolded_chosen : (x : Result W E) (t : List ℕ) → (s : List ℕ) × (run step x s ≡ run chosen x t)
    unfolded_chosen x [] = ([], refl)
    unfolded_chosen (Err e) (f ∷ t) = ([], sym (run_fault chosen e (f ∷ t)))
    unfolded_chosen (Ok w) (f ∷ t) =
        let one = once w f in
        let rest = unfolded_chosen (chosen w f) t in
        (one.0 ++ rest.0, run-append step (Ok w) one.0 rest.0 ∙ ap (λ y. run step y rest.0) one.1 ∙ rest.1)

    -- chosen entries get as far as all entries
    pub chosen_reduces : Reduces step chosen
    chosen_reduces = record { overtakes = reached; unfolded = unfolded_chosen }
