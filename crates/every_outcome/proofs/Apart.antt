-- The fibers of a persistent set are also apart without marks, numbers of masks, counts and notes.
use Rattle.std.proofs.Common.{◌≡◌, ◌≢◌, ◌⊎◌, inl, inr, ℕ, nat_eq, nat_lt, ◌<◌, Bool, true, false, not, ◌||◌, List, length, map, Some, None, Option}
use Rattle.std.proofs.Common.{Result, Ok, Err, refl, sym, ap, ap₂, ◌∙◌, subst}
use Rattle.std.{proofs.lemmas.Option.same_Some, specs.List.slice_get}
use Rattle.fiber_frames.specs.{declared.uses.Use.{Use, TheVariants.Cancels}, Fiber.{Fiber, ask_of}, Uses.{is_some, used_place}}
use Rattle.cell_registry.specs.{declared.{cell.Cell.Cell, limits.RunError.RunError}, Cells.{Cells, without_counts}, Words.has_ended}
use Rattle.cell_registry.proofs.Forgetting.{unawaited_cell, without_waits_twice}
use Rattle.scheduled_core.specs.{declared.wish.Wish.{Wish, TheVariants.Shared}, Core.{World, wish_of}}
use Rattle.world_search.specs.Chosen.{AreApart, Meet}
use Rattle.every_schedule.specs.Persistent.{can_use, in_set, is_given, is_itself, is_making, is_persistent, is_sound, needs_of, needs_one, needs_unless}
use Rattle.every_schedule.specs.Places.{bared, entering, moves_at, stepped_if, unnoted}
use Rattle.every_schedule.proofs.{Bare.{enters, unborn_stays, Enters.{Goes, Stays}}, Outside.{KeepsTo, StandsAt, apart_from}, TwoMoves.idle_enters}
use Rattle.every_outcome.specs.Places.{Place, shown, stepped, unmarked_place, unmarked_world}
use Rattle.every_outcome.proofs.Commuting.{Leaves, count_none, fiber_none, leaves, leaves_none, place_again, plain_step, step_is, unmarked_led, unmarked_of}
use Rattle.every_outcome.proofs.Own.{cell_unmarked, end_unmarked, next_unmarked, number_unmarked, uses_unmarked}
use Rattle.every_outcome.proofs.Stepping.{get_unmarked, unmarked_alike}
use Rattle.cell_registry.specs.declared.call.Call.TheVariants as call
use Rattle.every_schedule.specs.Places as core
use Rattle.every_schedule.proofs.Apart as marked

module _ (says : Bool) where
  -- ---- what a move depends on, without marks
  itself_unmarked : (u : Use) (n : ℕ) (b : Fiber) → is_itself u n (shown says b) ≡ is_itself u n b
  itself_unmarked Cancels n b = ap (λ m. nat_eq m n) (number_unmarked b)
  itself_unmarked _ n b = refl

  can_use_unmarked : (o : Option (Use × ℕ)) (b : Fiber) → can_use o (shown says b) ≡ can_use o b
  can_use_unmarked None b = refl
  can_use_unmarked (Some u) b = ap₂ (λ s t. s || t) (itself_unmarked u.0 u.1 b) (ap is_some (uses_unmarked u.0 u.1 b))

  marked_at : (gs : List Fiber) (g : ℕ) (b : Fiber) (o : Option Fiber) → slice_get gs g ≡ o → slice_get (map (shown says) gs) g ≡ Some b →
      (c : Fiber) × (slice_get gs g ≡ Some c) × (shown says c ≡ b)
  marked_at gs g b None e at = let no : None ≡ Some b = sym (get_unmarked says gs g None e) ∙ at in absurd (cc)
  marked_at gs g b (Some c) e at = (c, e, same_Some (shown says c) b (sym (get_unmarked says gs g (Some c) e) ∙ at))

  module _ (w : World) where
    given_unmarked : (o : Option (Use × ℕ)) → is_given (unmarked_world says w) o ≡ is_given w o
    given_unmarked None = refl
    given_unmarked (Some u) = ap (λ n. is_making u.0 || nat_lt u.1 n) (next_unmarked says w.cells (used_place u.0))

    sound_unmarked : (f : ℕ) (x : Wish) → is_sound (unmarked_world says w) f x ≡ is_sound w f x
    sound_unmarked f (Shared call.Cut) = ap (λ (c : Cell). not (has_ended c.stage)) (cell_unmarked says w.cells f)
    sound_unmarked f _ = refl

    needs_unmarked : (f : ℕ) (x : Wish) → needs_of (unmarked_world says w) f x ≡ needs_of w f x
    needs_unmarked f (Shared call.Look) = ap (λ (c : Cell). needs_unless c.request (needs_one Cancels f)) (cell_unmarked says w.cells f)
    needs_unmarked f (Shared (call.Cancel i)) =
        ap (λ t. needs_unless t (record { one = Some (Cancels, i); two = None; fiber = Some i })) (end_unmarked says w f i)
    needs_unmarked f (Shared (call.Join i)) = ap (λ t. needs_unless t (record { one = None; two = None; fiber = Some i })) (end_unmarked says w f i)
    needs_unmarked f _ = refl

    keeps_unmarked : (s : List Bool) (n : _) → KeepsTo s w n → KeepsTo s (unmarked_world says w) n
    keeps_unmarked s n h = record {
      one = given_unmarked n.one ∙ h.one;
      two = given_unmarked n.two ∙ h.two;
      inside = h.inside;
      outside = λ g b out at.
          let c = marked_at w.fibers g b (slice_get w.fibers g) refl at in
          let before = h.outside g c.0 out c.1 in
          subst (λ (x : Fiber). (can_use n.one x ≡ false) × (can_use n.two x ≡ false)) c.2
          (can_use_unmarked n.one c.0 ∙ before.0, can_use_unmarked n.two c.0 ∙ before.1);
    }

    -- a fiber that has no marks stands as before
    stands_unmarked : (s : List Bool) (f : ℕ) (h : StandsAt s w f) → shown says h.state ≡ h.state → StandsAt s (unmarked_world says w) f
    stands_unmarked s f h plain =
        let x = wish_of (ask_of h.state) in
        record {
          state = h.state;
          at = get_unmarked says w.fibers f (Some h.state) h.at ∙ ap Some plain;
          sound = sound_unmarked f x ∙ h.sound;
          keeps_to = subst (KeepsTo s (unmarked_world says w)) (sym (needs_unmarked f x)) (keeps_unmarked s (needs_of w f x) h.keeps_to);
        }

  -- ---- an entry is that of the search that keeps marks and counts, without them after it
  unmarked_bare : (y : Result Place RunError) → unmarked_of says (bared y) ≡ unmarked_of says y
  unmarked_bare (Ok p) =
      ap (λ (s : Cells). let y : Result Place RunError =
      Ok (record { limits = p.limits; world = record { fibers = map (shown says) p.world.fibers; cells = without_counts s } }) in y)
      (without_waits_twice p.world.cells)
  unmarked_bare (Err e) = refl

  marked_step : (p : Place) (f : ℕ) → stepped says p f ≡ unmarked_of says (core.stepped p f)
  marked_step p f = by (moves_at (slice_get p.world.fibers f)) refl
    where
      by : (b : Bool) → moves_at (slice_get p.world.fibers f) ≡ b → stepped says p f ≡ unmarked_of says (stepped_if b p f)
      by true e = step_is says p f ∙ sym (unmarked_bare (entering p f))
      by false e = step_is says p f ∙ ap (unmarked_of says) (idle_enters p f e)

  marked_stop : (y : Result Place RunError) (e : RunError) → unmarked_of says y ≡ Err e → y ≡ Err e
  marked_stop (Ok x) e is = absurd (cc)
  marked_stop (Err d) e is = is

-- it leaves the others as they are
leaves_bare : (w : World) (g : ℕ) (v : World) → Leaves w g v → Leaves w g (unnoted v)
leaves_bare w g v h = record {
  others = h.others;
  counts = λ f apart. ap (λ (c : Cell). c.count) (unawaited_cell v.cells f) ∙ h.counts f apart;
}

leaves_marked : (p : Place) (g : ℕ) (y : Place) → core.stepped p g ≡ Ok y → Leaves p.world g y.world
leaves_marked p g y e = elim (enters p g y e) [
  | Stays is ↦ subst (λ (x : Place). Leaves p.world g x.world) is (leaves_none p.world g)
  | Goes x goes is ↦ subst (λ (q : Place). Leaves p.world g q.world) is (leaves_bare p.world g x.world (leaves p g x goes))
]

module _ (says : Bool) where
  -- the place has no marks, and each fiber of the set is born, and its next move depends on fibers of the set alone
  pub record Stands (s : List Bool) (p : Place) : Type 0 where
    pub none : unmarked_place says p ≡ p
    pub members : marked.Stands s p

  -- ---- after the entry of one fiber
  module _ (p : Place) (none : unmarked_place says p ≡ p) (g : ℕ) (y : Place) (goes : core.stepped p g ≡ Ok y) (f : ℕ) (apart : g ≢ f)
      (a : Fiber) (at : slice_get p.world.fibers f ≡ Some a) where
    -- another fiber that was born before has no marks
    later_plain : (b : Fiber) → slice_get y.world.fibers f ≡ Some b → shown says b ≡ b
    later_plain b e =
        let same : a ≡ b = same_Some a b (sym ((leaves_marked p g y goes).others f apart a at) ∙ e) in
        subst (λ (c : Fiber). shown says c ≡ c) same (fiber_none says p none f a at)

    -- and its entry leads where it leads with marks
    later_step : stepped says (unmarked_place says y) f ≡ unmarked_of says (core.stepped y f)
    later_step =
        plain_step says y f ((leaves_marked p g y goes).counts f apart ∙ count_none says p none f) (λ b e. unmarked_alike says b (later_plain b e))
        ∙ sym (step_is says y f) ∙ marked_step says y f

  -- ---- entries of fibers outside the set
  module _ (s : List Bool) (p : Place) (h : Stands s p) (g : ℕ) (out : in_set s g ≡ false) where
    holds_on : (y : Place) → stepped says p g ≡ Ok y → Stands s y
    holds_on y goes =
        let on = unmarked_led says (core.stepped p g) y (sym (marked_step says p g) ∙ goes) in
        subst (Stands s) on.2 (record {
          none = place_again says on.0;
          members = λ f mine.
              let before = h.members f mine in
              let later = (marked.apart s).stays p g on.0 h.members out on.1 f mine in
              stands_unmarked says on.0.world s f later
              (later_plain p h.none g on.0 on.1 f (apart_from s g out f mine) before.state before.at later.state later.at);
        })

    module _ (f : ℕ) (mine : in_set s f ≡ true) where
      abbrev it : StandsAt s p.world f
      it = h.members f mine

      far : g ≢ f
      far = apart_from s g out f mine

      module _ (x : Place) (goes : core.stepped p f ≡ Ok x) where
        met_by : (b : Fiber) → slice_get p.world.fibers g ≡ Some b → (y : Result Place RunError) → core.stepped p g ≡ y → Meet core.stepped f x g y →
            Meet (stepped says) f (unmarked_place says x) g (unmarked_of says y)
        met_by b there (Ok y) to met = (
          unmarked_place says met.0,
          later_step p h.none g y to f far it.state it.at ∙ ap (unmarked_of says) met.1,
          later_step p h.none f x goes g (λ e. far (sym e)) b there ∙ ap (unmarked_of says) met.2,
        )
        met_by b there (Err e) to met = later_step p h.none f x goes g (λ e. far (sym e)) b there ∙ ap (unmarked_of says) met

        idle : core.stepped p g ≡ Ok p → stepped says p g ≡ Ok p
        idle stays = marked_step says p g ∙ ap (unmarked_of says) stays ∙ ap Ok h.none

        meet_by : (o : Option Fiber) → slice_get p.world.fibers g ≡ o →
            (stepped says p g ≡ Ok p) ⊎ Meet (stepped says) f (unmarked_place says x) g (stepped says p g)
        meet_by None there = inl (idle (unborn_stays p g there))
        meet_by (Some b) there = elim ((marked.apart s).meet p f g x h.members mine out goes) [
          | inl stays ↦ inl (idle stays)
          | inr met ↦ inr (subst (Meet (stepped says) f (unmarked_place says x) g) (sym (marked_step says p g)) (met_by b there (core.stepped p g) refl met))
        ]

      meet_on : (x : Place) → stepped says p f ≡ Ok x → (stepped says p g ≡ Ok p) ⊎ Meet (stepped says) f x g (stepped says p g)
      meet_on x goes =
          let on = unmarked_led says (core.stepped p f) x (sym (marked_step says p f) ∙ goes) in
          subst (λ (v : Place). (stepped says p g ≡ Ok p) ⊎ Meet (stepped says) f v g (stepped says p g)) on.2
          (meet_by on.0 on.1 (slice_get p.world.fibers g) refl)

      faults_on : (e : RunError) (y : Place) → stepped says p f ≡ Err e → stepped says p g ≡ Ok y → stepped says y f ≡ Err e
      faults_on e y stops goes =
          let on = unmarked_led says (core.stepped p g) y (sym (marked_step says p g) ∙ goes) in
          let stop = marked_stop says (core.stepped p f) e (sym (marked_step says p f) ∙ stops) in
          subst (λ (z : Place). stepped says z f ≡ Err e) on.2
          (later_step p h.none g on.0 on.1 f far it.state it.at
          ∙ ap (unmarked_of says) ((marked.apart s).faults p f g e on.0 h.members mine out stop on.1))

  -- the fibers of a set that stands are apart
  pub apart : (s : List Bool) → AreApart (stepped says) (Stands s) (in_set s)
  apart s = record {
    stays = λ p g y holds out goes. holds_on s p holds g out y goes;
    meet = λ p f g x holds mine out goes. meet_on s p holds g out f mine x goes;
    faults = λ p f g e y holds mine out stops goes. faults_on s p holds g out f mine e y stops goes;
  }

  -- a persistent set stands at a place without marks, if its members are born
  pub stands_now : (p : Place) (s : List Bool) → unmarked_place says p ≡ p → is_persistent p.world s ≡ true →
      ((f : ℕ) → in_set s f ≡ true → f < length p.world.fibers) → Stands s p
  stands_now p s none all born = record { none = none; members = marked.stands_now p s all born }
