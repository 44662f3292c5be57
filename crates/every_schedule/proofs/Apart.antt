-- The fibers of a persistent set are apart: what the other fibers do neither shows in their next moves nor is changed by them.
use Rattle.std.proofs.Common.{◌≡◌, ◌≢◌, ◌⊎◌, inl, inr, ℕ, zero, suc, ◌+◌, ◌<◌, nat_lt, Bool, true, false, not, ◌&&◌, ◌||◌, List, [], ◌∷◌, length}
use Rattle.std.proofs.Common.{Some, None, Option, Result, Ok, Err, refl, sym, ap, ◌∙◌, subst, arith}
use Rattle.std.specs.List.{slice_get}
use mathlib.Core.Logic.{dite}
use native.Mathlib.Decide.{ℕ_discrete}
use Rattle.fiber_frames.specs.declared.uses.Use.{Use}
use Rattle.fiber_frames.specs.declared.uses.Use.TheVariants.{Cancels}
use Rattle.fiber_frames.specs.Fiber.{Fiber, ask_of}
use Rattle.fiber_frames.specs.Uses.{used_place}
use Rattle.cell_registry.specs.declared.call.Call.TheVariants as call
use Rattle.cell_registry.specs.declared.cell.Cell.{Cell}
use Rattle.cell_registry.specs.declared.limits.RunError.{RunError}
use Rattle.cell_registry.specs.Words.{has_ended}
use Rattle.cell_registry.proofs.Forgetting.{unawaited_cell}
use Rattle.scheduled_core.specs.declared.wish.Wish.{Wish}
use Rattle.scheduled_core.specs.declared.wish.Wish.TheVariants.{Shared}
use Rattle.scheduled_core.specs.Core.{World, wish_of}
use Rattle.world_search.specs.Chosen.{AreApart, Meet}
use Rattle.every_schedule.specs.declared.needs.Needs.{Needs}
use Rattle.every_schedule.specs.Persistent.{can_use, depends_on, in_set, is_given, is_making, is_number, is_persistent, is_sound}
use Rattle.every_schedule.specs.Persistent.{is_inside, needs_of, needs_one, needs_unless, spared, stand, stands_in, stands_with}
use Rattle.every_schedule.specs.Places.{Place, bare, bared, entering, moves_at, stepped, unnoted, wants}
use Rattle.every_schedule.proofs.Bare.{bare_step, end_bare, enters, goes_bare, idle_stays, moves_step, next_bare}
use Rattle.every_schedule.proofs.Bare.Enters.{Goes, Stays}
use Rattle.every_schedule.proofs.Outside.{KeepsTo, StandsAt, apart_from, neither, not_false, quiet_moves, stands_later}
use Rattle.every_schedule.proofs.OwnKept.{both_true, or_cases}
use Rattle.every_schedule.proofs.Still.{other_stays}
use Rattle.every_schedule.proofs.TwoMoves.{AreQuiet, born_wants, fault_stays, leads_to, moves_meet}

-- each fiber of the set is born, and its next move depends on fibers of the set alone
abbrev pub Stands : List Bool → Place → Type 0
Stands s p = (f : ℕ) → in_set s f ≡ true → StandsAt s p.world f

-- ---- without the notes of joins
given_bare : (w : World) (o : Option (Use × ℕ)) → is_given (unnoted w) o ≡ is_given w o
given_bare w None = refl
given_bare w (Some u) = ap (λ n. is_making u.0 || nat_lt u.1 n) (next_bare w.cells (used_place u.0))

sound_bare : (w : World) (f : ℕ) (x : Wish) → is_sound (unnoted w) f x ≡ is_sound w f x
sound_bare w f (Shared call.Cut) = ap (λ (c : Cell). not (has_ended c.stage)) (unawaited_cell w.cells f)
sound_bare w f _ = refl

needs_bare : (w : World) (f : ℕ) (x : Wish) → needs_of (unnoted w) f x ≡ needs_of w f x
needs_bare w f (Shared call.Look) = ap (λ (c : Cell). needs_unless c.request (needs_one Cancels f)) (unawaited_cell w.cells f)
needs_bare w f (Shared (call.Cancel i)) = ap (λ t. needs_unless t (record { one = Some (Cancels, i); two = None; fiber = Some i })) (end_bare w i)
needs_bare w f (Shared (call.Join i)) = ap (λ t. needs_unless t (record { one = None; two = None; fiber = Some i })) (end_bare w i)
needs_bare w f _ = refl

keeps_bare : (s : List Bool) (w : World) (n : Needs) → KeepsTo s w n → KeepsTo s (unnoted w) n
keeps_bare s w n h = record { one = given_bare w n.one ∙ h.one; two = given_bare w n.two ∙ h.two; inside = h.inside; outside = h.outside }

stands_bare : (s : List Bool) (w : World) (f : ℕ) → StandsAt s w f → StandsAt s (unnoted w) f
stands_bare s w f h = record {
  state = h.state;
  at = h.at;
  sound = sound_bare w f (wish_of (ask_of h.state)) ∙ h.sound;
  keeps_to = subst (KeepsTo s (unnoted w)) (sym (needs_bare w f (wish_of (ask_of h.state))))
      (keeps_bare s w (needs_of w f (wish_of (ask_of h.state))) h.keeps_to);
}

-- ---- entries of fibers outside the set
stops_bare : (y : Result Place RunError) (e : RunError) → bared y ≡ Err e → y ≡ Err e
stops_bare (Ok q) e is = absurd (cc)
stops_bare (Err d) e is = is

module _ (s : List Bool) (p : Place) (g : ℕ) (holds : Stands s p) (out : in_set s g ≡ false) where
  abbrev w : World
  w = p.world

  -- ---- a fiber that has a next move
  module _ (moves : moves_at (slice_get p.world.fibers g) ≡ true) where
    abbrev it : (b : Fiber) × (slice_get p.world.fibers g ≡ Some b) × (wants (wish_of (ask_of b)) ≡ true)
    it = born_wants (slice_get p.world.fibers g) moves

    holds_led : (x : Place) → entering p g ≡ Ok x → Stands s x
    holds_led x goes =
        let to = leads_to p.limits w g it.0 it.1 (wish_of (ask_of it.0)) refl it.2 x goes in
        subst (Stands s) to (λ f mine. stands_later s w g it.0 out it.1 (wish_of (ask_of it.0)) refl it.2 f mine (holds f mine))

    module _ (f : ℕ) (mine : in_set s f ≡ true) (has : moves_at (slice_get p.world.fibers f) ≡ true) where
      abbrev h : StandsAt s w f
      h = holds f mine

      abbrev x : Wish
      x = wish_of (ask_of h.state)

      abbrev v : Wish
      v = wish_of (ask_of it.0)

      far : g ≢ f
      far = apart_from s g out f mine

      wanted : wants x ≡ true
      wanted = ap moves_at (sym h.at) ∙ has

      quiet : AreQuiet p.limits w.cells f h.state x g it.0 v
      quiet = quiet_moves s w g it.0 out it.1 p.limits f mine h.state x v refl wanted it.2 h.sound h.keeps_to

      meet_led : (y : Place) → entering p f ≡ Ok y → Meet entering f y g (entering p g)
      meet_led = moves_meet p.limits w f g far h.state it.0 h.at it.1 x v refl refl wanted it.2 quiet

      fault_led : (e : RunError) → entering p f ≡ Err e → (y : Place) → entering p g ≡ Ok y → entering y f ≡ Err e
      fault_led = fault_stays p.limits w f g far h.state it.0 h.at it.1 x v refl refl wanted it.2 quiet

  -- ---- as the search makes them
  by_moves : (t : Bool) → moves_at (slice_get p.world.fibers g) ≡ t → (y : Place) → stepped p g ≡ Ok y → Stands s y
  by_moves false e y goes = let both : Ok p ≡ Ok y = sym (idle_stays p g e) ∙ goes in let same : p ≡ y = cc in subst (Stands s) same holds
  by_moves true e y goes = elim (enters p g y goes) [
    | Stays is ↦ subst (Stands s) is holds
    | Goes x to is ↦ subst (Stands s) is (λ f mine. stands_bare s x.world f (holds_led e x to f mine))
  ]

  holds_on : (y : Place) → stepped p g ≡ Ok y → Stands s y
  holds_on = by_moves (moves_at (slice_get p.world.fibers g)) refl

  module _ (f : ℕ) (mine : in_set s f ≡ true) where
    meet_bare : (a : Place) (y : Result Place RunError) → Meet entering f a g y → Meet stepped f (bare a) g (bared y)
    meet_bare a (Ok y) met = (bare met.0, bare_step y f ∙ ap bared met.1, bare_step a g ∙ ap bared met.2)
    meet_bare a (Err e) met = bare_step a g ∙ ap bared met

    -- a member without a next move
    idle_later : moves_at (slice_get p.world.fibers f) ≡ false → (y : Place) → stepped p g ≡ Ok y → stepped y f ≡ Ok y
    idle_later none y goes =
        let h = holds f mine in
        idle_stays y f (ap moves_at (other_stays p y g f (apart_from s g out f mine) h.state h.at goes ∙ sym h.at) ∙ none)

    meet_idle : moves_at (slice_get p.world.fibers f) ≡ false → (y : Result Place RunError) → stepped p g ≡ y → Meet stepped f p g y
    meet_idle none (Ok y) goes = (y, idle_later none y goes, goes)
    meet_idle none (Err e) goes = goes

    meet_by : (t u : Bool) → moves_at (slice_get p.world.fibers f) ≡ t → moves_at (slice_get p.world.fibers g) ≡ u → (x : Place) → stepped p f ≡ Ok x →
        (stepped p g ≡ Ok p) ⊎ Meet stepped f x g (stepped p g)
    meet_by t false has moves x goes = inl (idle_stays p g moves)
    meet_by false true has moves x goes =
        let both : Ok p ≡ Ok x = sym (idle_stays p f has) ∙ goes in
        let same : p ≡ x = cc in
        inr (subst (λ z. Meet stepped f z g (stepped p g)) same (meet_idle has (stepped p g) refl))
    meet_by true true has moves x goes =
        let on = goes_bare (entering p f) x (sym (moves_step p f has) ∙ goes) in
        let both : Ok (bare on.0) ≡ Ok x = sym (ap bared on.1) ∙ sym (moves_step p f has) ∙ goes in
        let same : bare on.0 ≡ x = cc in
        inr (subst (Meet stepped f x g) (sym (moves_step p g moves))
        (subst (λ z. Meet stepped f z g (bared (entering p g))) same (meet_bare on.0 (entering p g) (meet_led moves f mine has on.0 on.1))))

    pub meet_on : (x : Place) → stepped p f ≡ Ok x → (stepped p g ≡ Ok p) ⊎ Meet stepped f x g (stepped p g)
    meet_on = meet_by (moves_at (slice_get p.world.fibers f)) (moves_at (slice_get p.world.fibers g)) refl refl

    faults_by : (t u : Bool) → moves_at (slice_get p.world.fibers f) ≡ t → moves_at (slice_get p.world.fibers g) ≡ u → (e : RunError) (y : Place) →
        stepped p f ≡ Err e → stepped p g ≡ Ok y → stepped y f ≡ Err e
    faults_by t false has moves e y stops goes =
        let both : Ok p ≡ Ok y = sym (idle_stays p g moves) ∙ goes in
        let same : p ≡ y = cc in
        subst (λ z. stepped z f ≡ Err e) same stops
    faults_by false true has moves e y stops goes = let no : Ok p ≡ Err e = sym (idle_stays p f has) ∙ stops in absurd (cc)
    faults_by true true has moves e y stops goes =
        let on = goes_bare (entering p g) y (sym (moves_step p g moves) ∙ goes) in
        let both : Ok (bare on.0) ≡ Ok y = sym (ap bared on.1) ∙ sym (moves_step p g moves) ∙ goes in
        let same : bare on.0 ≡ y = cc in
        let raw : entering p f ≡ Err e = stops_bare (entering p f) e (sym (moves_step p f has) ∙ stops) in
        subst (λ z. stepped z f ≡ Err e) same (bare_step on.0 f ∙ ap bared (fault_led moves f mine has e raw on.0 on.1))

    pub faults_on : (e : RunError) (y : Place) → stepped p f ≡ Err e → stepped p g ≡ Ok y → stepped y f ≡ Err e
    faults_on = faults_by (moves_at (slice_get p.world.fibers f)) (moves_at (slice_get p.world.fibers g)) refl refl

-- the fibers of a set that stands are apart
pub apart : (s : List Bool) → AreApart stepped (Stands s) (in_set s)
apart s = record {
  stays = λ p g y holds out goes. holds_on s p g holds out y goes;
  meet = λ p f g x holds mine out goes. meet_on s p g holds out f mine x goes;
  faults = λ p f g e y holds mine out stops goes. faults_on s p g holds out f mine e y stops goes;
}

-- ---- what the check of a set shows
spared_at : (d : Needs) (s : List Bool) (gs : List Fiber) (i : ℕ) → spared d s i gs ≡ true → (g : ℕ) (b : Fiber) → slice_get gs g ≡ Some b →
    in_set s (i + g) || not (depends_on d (i + g) b) ≡ true
spared_at d s [] i all g b at = absurd (cc)
spared_at d s (c ∷ gs) i all zero b at =
    let here = both_true (in_set s i || not (depends_on d i c)) (spared d s (suc i) gs) all in
    let same : c ≡ b = cc in
    let first : i ≡ i + 0 = omega arith in
    subst (λ j. in_set s j || not (depends_on d j b) ≡ true) first (subst (λ (x : Fiber). in_set s i || not (depends_on d i x) ≡ true) same here.0)
spared_at d s (c ∷ gs) i all (suc g) b at =
    let here = both_true (in_set s i || not (depends_on d i c)) (spared d s (suc i) gs) all in
    let next : suc i + g ≡ i + suc g = omega arith in
    subst (λ j. in_set s j || not (depends_on d j b) ≡ true) next (spared_at d s gs (suc i) here.1 g b at)

stand_at : (w : World) (s : List Bool) (n : ℕ) → stand w s n ≡ true → (f : ℕ) → f < n → in_set s f ≡ true → stands_in w s f (slice_get w.fibers f) ≡ true
unfolding stand
stand_at w s zero all f low mine = absurd (omega (arith, low))
stand_at w s (suc n) all f low mine =
    let here = both_true (not (in_set s n) || stands_in w s n (slice_get w.fibers n)) (stand w s n) all in
    dite (ℕ_discrete f n)
    (λ same.
    elim (or_cases (not (in_set s n)) (stands_in w s n (slice_get w.fibers n)) here.0) [
      | inl none ↦ let no : false ≡ true = ap not (sym mine) ∙ ap (λ i. not (in_set s i)) same ∙ none in absurd (cc)
      | inr so ↦ subst (λ i. stands_in w s i (slice_get w.fibers i) ≡ true) (sym same) so
    ])
    (λ other. stand_at w s n here.1 f (omega (arith, low, other)) mine)

module _ (w : World) (s : List Bool) (d : Needs) (with : stands_with d w s ≡ true) where
  abbrev parts : (is_given w d.one && is_given w d.two ≡ true) × (is_inside s d.fiber && spared d s 0 w.fibers ≡ true)
  parts = both_true (is_given w d.one && is_given w d.two) (is_inside s d.fiber && spared d s 0 w.fibers) with

  abbrev given : (is_given w d.one ≡ true) × (is_given w d.two ≡ true)
  given = both_true (is_given w d.one) (is_given w d.two) parts.0

  abbrev rest : (is_inside s d.fiber ≡ true) × (spared d s 0 w.fibers ≡ true)
  rest = both_true (is_inside s d.fiber) (spared d s 0 w.fibers) parts.1

  off : (g : ℕ) (b : Fiber) → in_set s g ≡ false → slice_get w.fibers g ≡ Some b → depends_on d g b ≡ false
  off g b out at =
      let first : 0 + g ≡ g = omega arith in
      let so = subst (λ j. in_set s j || not (depends_on d j b) ≡ true) first (spared_at d s w.fibers 0 rest.1 g b at) in
      elim (or_cases (in_set s g) (not (depends_on d g b)) so) [
        | inl it ↦ let no : false ≡ true = sym out ∙ it in absurd (cc)
        | inr none ↦ not_false (depends_on d g b) none
      ]

  inside : (i : ℕ) → d.fiber ≡ Some i → in_set s i ≡ true
  inside i is = ap (is_inside s) (sym is) ∙ rest.0

  keeps_so : KeepsTo s w d
  keeps_so = record {
    one = given.0;
    two = given.1;
    inside = inside;
    outside = λ g b out at.
        neither (can_use d.one b) (can_use d.two b) (neither (is_number d.fiber g) (can_use d.one b || can_use d.two b) (off g b out at)).1;
  }

stands_so : (w : World) (s : List Bool) (f : ℕ) (o : Option Fiber) → slice_get w.fibers f ≡ o → stands_in w s f o ≡ true → StandsAt s w f
stands_so w s f None at so = absurd (cc)
stands_so w s f (Some a) at so =
    let x = wish_of (ask_of a) in
    let both = both_true (is_sound w f x) (stands_with (needs_of w f x) w s) so in
    record { state = a; at = at; sound = both.0; keeps_to = keeps_so w s (needs_of w f x) both.1 }

-- a persistent set stands, if its members are born
pub stands_now : (p : Place) (s : List Bool) → is_persistent p.world s ≡ true → ((f : ℕ) → in_set s f ≡ true → f < length p.world.fibers) → Stands s p
stands_now p s all born = λ f mine.
    stands_so p.world s f (slice_get p.world.fibers f) refl (stand_at p.world s (length p.world.fibers) all f (born f mine) mine)
