-- A birth commutes with each move of another fiber that is born before it. So births can be made early.
use Rattle.std.proofs.Common.{◌≡◌, ◌≢◌, ◌⊎◌, inl, inr, ℕ, Bool, true, false, [], ◌++◌, Some, None, Option, Result, Ok, Err}
use Rattle.std.proofs.Common.{refl, sym, ap, ◌∙◌, subst, arith, append-nil}
use Rattle.std.specs.List.{slice_get}
use Rattle.effect_term.specs.declared.reply.Reply.{Reply}
use Rattle.effect_term.specs.declared.reply.Reply.TheVariants as reply
use Rattle.fiber_frames.specs.declared.ask.Ask.{Ask}
use Rattle.fiber_frames.specs.declared.ask.Ask.TheVariants as ask
use Rattle.fiber_frames.specs.declared.uses.Use.{Use}
use Rattle.fiber_frames.specs.declared.uses.Use.TheVariants.{MakesDeferreds, MakesRefs, Starts}
use Rattle.fiber_frames.specs.Fiber.{Fiber, ask_of}
use Rattle.fiber_frames.specs.Uses.{AskApart, NumberApart}
use Rattle.cell_registry.specs.declared.limits.Limits.{Limits}
use Rattle.cell_registry.specs.declared.limits.Band.TheVariants.{Deferreds, Fibers, Refs}
use Rattle.cell_registry.specs.declared.limits.RunError.{RunError}
use Rattle.cell_registry.specs.declared.call.Call.{Call}
use Rattle.cell_registry.specs.declared.call.Call.TheVariants.{NewDeferred, NewRef, Start}
use Rattle.cell_registry.specs.Cells.{Cells, after, full, refusal, reply_of}
use Rattle.scheduled_core.specs.declared.wish.Wish.{Wish}
use Rattle.scheduled_core.specs.declared.wish.Wish.TheVariants.{Alone, Nothing, Shared}
use Rattle.scheduled_core.specs.Core.{World, born, wish_of}
use Rattle.scheduled_core.specs.Finals.{reply_to}
use Rattle.world_search.specs.Free.{AreEarly, AreFree, Commutes}
use Rattle.every_schedule.specs.declared.leaping.AtOnce.{AtOnce}
use Rattle.every_schedule.specs.Places.{Place, bare, bared, entering, moves_at, stepped, unnoted, wants}
use Rattle.every_schedule.specs.Reduced.{IsBirth, IsMade, MayOwn, has_birth, is_birth, is_birth_call, keeps, others}
use Rattle.every_schedule.proofs.Bare.{bare_step, entering_bare, goes_bare, idle_stays, moves_step}
use Rattle.every_schedule.proofs.OwnKept.{ask_for, asked_so, asks_apart, keeps_child, keeps_move, others_at, others_later}
use Rattle.every_schedule.proofs.Still.{may_are_free}
use Rattle.every_schedule.proofs.TwoMoves.{AreQuiet, leads_to, made, moves_meet, place, quiet_silent, still_at, with_free}

-- ---- a birth, and a call of another kind
-- the call makes nothing of the kind that this birth makes
abbrev pub IsClear : Call → Call → Type 0
IsClear Start d = d ≢ Start
IsClear NewRef d = d ≢ NewRef
IsClear NewDeferred d = d ≢ NewDeferred
IsClear _ d = ⊥

fiber_same : (s : Cells) (g : ℕ) (d : Call) → d ≢ Start → (after s g d).next_fiber ≡ s.next_fiber
unfolding after
fiber_same s g Start h = absurd (h refl)
fiber_same s g _ h = refl

ref_same : (s : Cells) (g : ℕ) (d : Call) → d ≢ NewRef → (after s g d).next_ref ≡ s.next_ref
unfolding after
ref_same s g NewRef h = absurd (h refl)
ref_same s g _ h = refl

deferred_same : (s : Cells) (g : ℕ) (d : Call) → d ≢ NewDeferred → (after s g d).next_deferred ≡ s.next_deferred
unfolding after
deferred_same s g NewDeferred h = absurd (h refl)
deferred_same s g _ h = refl

module _ (s : Cells) (f g : ℕ) (d : Call) where
  pub birth_reply : (c : Call) → IsClear c d → reply_of (after s g d) f c ≡ reply_of s f c
  unfolding reply_of
  birth_reply Start h = ap reply.Number (fiber_same s g d h)
  birth_reply NewRef h = ap reply.Number (ref_same s g d h)
  birth_reply NewDeferred h = ap reply.Number (deferred_same s g d h)
  birth_reply _ h = absurd h

  pub birth_room : (k : Limits) (c : Call) → IsClear c d → refusal k (after s g d) f c ≡ refusal k s f c
  unfolding refusal
  birth_room k Start h = ap (λ n. full Fibers n k.fibers) (fiber_same s g d h)
  birth_room k NewRef h = ap (λ n. full Refs n k.refs) (ref_same s g d h)
  birth_room k NewDeferred h = ap (λ n. full Deferreds n k.deferreds) (deferred_same s g d h)
  birth_room k _ h = absurd h

started_reply : (s : Cells) (f g : ℕ) (d : Call) → d ≢ Start → reply_of (after s f Start) g d ≡ reply_of s g d
unfolding after reply_of
started_reply s f g Start h = absurd (h refl)
started_reply s f g _ h = refl

ref_reply : (s : Cells) (f g : ℕ) (d : Call) → d ≢ NewRef → reply_of (after s f NewRef) g d ≡ reply_of s g d
unfolding after reply_of
ref_reply s f g NewRef h = absurd (h refl)
ref_reply s f g _ h = refl

deferred_reply : (s : Cells) (f g : ℕ) (d : Call) → d ≢ NewDeferred → reply_of (after s f NewDeferred) g d ≡ reply_of s g d
unfolding after reply_of
deferred_reply s f g NewDeferred h = absurd (h refl)
deferred_reply s f g _ h = refl

started_room : (k : Limits) (s : Cells) (f g : ℕ) (d : Call) → d ≢ Start → refusal k (after s f Start) g d ≡ refusal k s g d
unfolding after refusal
started_room k s f g Start h = absurd (h refl)
started_room k s f g _ h = refl

ref_room : (k : Limits) (s : Cells) (f g : ℕ) (d : Call) → d ≢ NewRef → refusal k (after s f NewRef) g d ≡ refusal k s g d
unfolding after refusal
ref_room k s f g NewRef h = absurd (h refl)
ref_room k s f g _ h = refl

deferred_room : (k : Limits) (s : Cells) (f g : ℕ) (d : Call) → d ≢ NewDeferred → refusal k (after s f NewDeferred) g d ≡ refusal k s g d
unfolding after refusal
deferred_room k s f g NewDeferred h = absurd (h refl)
deferred_room k s f g _ h = refl

started_swaps : (s : Cells) (f g : ℕ) (d : Call) → after (after s f Start) g d ≡ after (after s g d) f Start
unfolding after
started_swaps s f g Start = refl
started_swaps s f g _ = refl

ref_swaps : (s : Cells) (f g : ℕ) (d : Call) → after (after s f NewRef) g d ≡ after (after s g d) f NewRef
unfolding after
ref_swaps s f g NewRef = refl
ref_swaps s f g _ = refl

deferred_swaps : (s : Cells) (f g : ℕ) (d : Call) → after (after s f NewDeferred) g d ≡ after (after s g d) f NewDeferred
unfolding after
deferred_swaps s f g NewDeferred = refl
deferred_swaps s f g _ = refl

module _ (s : Cells) (f g : ℕ) (d : Call) where
  pub other_reply : (c : Call) → IsClear c d → reply_of (after s f c) g d ≡ reply_of s g d
  other_reply Start h = started_reply s f g d h
  other_reply NewRef h = ref_reply s f g d h
  other_reply NewDeferred h = deferred_reply s f g d h
  other_reply _ h = absurd h

  pub other_room : (k : Limits) (c : Call) → IsClear c d → refusal k (after s f c) g d ≡ refusal k s g d
  other_room k Start h = started_room k s f g d h
  other_room k NewRef h = ref_room k s f g d h
  other_room k NewDeferred h = deferred_room k s f g d h
  other_room k _ h = absurd h

  pub births_swap : (c : Call) → IsClear c d → after (after s f c) g d ≡ after (after s g d) f c
  births_swap Start h = started_swaps s f g d
  births_swap NewRef h = ref_swaps s f g d
  births_swap NewDeferred h = deferred_swaps s f g d
  births_swap _ h = absurd h

-- only one of the two calls starts a fiber
pub no_child : (b : Fiber) (d : Call) (q : Reply) → d ≢ Start → born b d q ≡ []
no_child b Start q h = absurd (h refl)
no_child b _ q h = refl

pub children_swap : (a b : Fiber) (c d : Call) (r q : Reply) → IsClear c d → born a c r ++ born b d q ≡ born b d q ++ born a c r
children_swap a b Start d r q h =
    ap (λ l. born a Start r ++ l) (no_child b d q h) ∙ append-nil (born a Start r) ∙ sym (ap (λ l. l ++ born a Start r) (no_child b d q h))
children_swap a b NewRef d r q h = sym (append-nil (born b d q))
children_swap a b NewDeferred d r q h = sym (append-nil (born b d q))
children_swap a b _ d r q h = absurd h

-- ---- what no other fiber can make
-- a fiber that makes nothing of the kind isn't answered a number of that kind
abbrev pub IsMaking : Use → Type 0
IsMaking u = (n i : ℕ) (a : Ask) (q : Reply) → AskApart u n i a → NumberApart u n a q

pub starts_clear : IsMaking Starts
starts_clear n i ask.Start q h = absurd (h refl)
starts_clear n i ask.NewRef q h = λ kind. absurd (cc)
starts_clear n i ask.NewDeferred q h = λ kind. absurd (cc)
starts_clear n i _ q h = tt

pub refs_clear : IsMaking MakesRefs
refs_clear n i ask.Start q h = λ kind. absurd (cc)
refs_clear n i ask.NewRef q h = absurd (h refl)
refs_clear n i ask.NewDeferred q h = λ kind. absurd (cc)
refs_clear n i _ q h = tt

pub deferreds_clear : IsMaking MakesDeferreds
deferreds_clear n i ask.Start q h = λ kind. absurd (cc)
deferreds_clear n i ask.NewRef q h = λ kind. absurd (cc)
deferreds_clear n i ask.NewDeferred q h = absurd (h refl)
deferreds_clear n i _ q h = tt

module _ (w : World) (f g : ℕ) (b : Fiber) (apart : g ≢ f) (at : slice_get w.fibers g ≡ Some b) where
  module _ (u : Use) (clear : IsMaking u) (alone : others (keeps u 0) f 0 w.fibers ≡ true) where
    off : keeps u 0 b ≡ true
    off = others_at (keeps u 0) f w.fibers 0 g b alone at (λ e. apart (omega (arith, e)))

    asks_off : (d : Call) → wish_of (ask_of b) ≡ Shared d → AskApart u 0 b.number (ask_for d)
    asks_off d is = subst (AskApart u 0 b.number) (asked_so (ask_of b) d is) (asks_apart u 0 b off)

  clear_called : (c d : Call) → wish_of (ask_of b) ≡ Shared d → is_birth_call w f c ≡ true → IsClear c d
  clear_called Start d is h = λ e. subst (λ x. AskApart Starts 0 b.number (ask_for x)) e (asks_off Starts starts_clear h d is) refl
  clear_called NewRef d is h = λ e. subst (λ x. AskApart MakesRefs 0 b.number (ask_for x)) e (asks_off MakesRefs refs_clear h d is) refl
  clear_called NewDeferred d is h = λ e. subst (λ x. AskApart MakesDeferreds 0 b.number (ask_for x)) e (asks_off MakesDeferreds deferreds_clear h d is) refl
  clear_called _ d is h = absurd (cc)

  module _ (v : Wish) (is : wish_of (ask_of b) ≡ v) where
    alone_later : (u : Use) → IsMaking u → others (keeps u 0) f 0 w.fibers ≡ true → others (keeps u 0) f 0 (made w g b v).fibers ≡ true
    alone_later u clear alone =
        let keep = off u clear alone in
        others_later (keeps u 0) f w g b v alone
        (keeps_move u 0 b keep (reply_to w.cells g v) (clear 0 b.number (ask_of b) (reply_to w.cells g v) (asks_apart u 0 b keep)))
        (λ start. keeps_child u 0 b keep w.cells.next_fiber)

    birth_later : (x : Wish) → is_birth w f x ≡ true → is_birth (made w g b v) f x ≡ true
    birth_later (Shared Start) h = alone_later Starts starts_clear h
    birth_later (Shared NewRef) h = alone_later MakesRefs refs_clear h
    birth_later (Shared NewDeferred) h = alone_later MakesDeferreds deferreds_clear h
    birth_later _ h = absurd (cc)

-- ---- the birth, and the move of another fiber
-- a birth, and a call that makes nothing of its kind
pub quiet_clear : (k : Limits) (s : Cells) (f : ℕ) (a : Fiber) (g : ℕ) (b : Fiber) (c d : Call) → IsClear c d → AreQuiet k s f a (Shared c) g b (Shared d)
quiet_clear k s f a g b c d clear = record {
  mine = birth_reply s f g d c clear;
  theirs = other_reply s f g d c clear;
  cells = births_swap s f g d c clear;
  my_room = birth_room s f g d k c clear;
  their_room = other_room s f g d k c clear;
  started = λ r q. children_swap a b c d r q clear;
}

birth_wanted : (w : World) (f : ℕ) (x : Wish) → is_birth w f x ≡ true → wants x ≡ true
birth_wanted w f (Shared c) e = refl
birth_wanted w f Alone e = absurd (cc)
birth_wanted w f Nothing e = absurd (cc)

module _ (k : Limits) (w : World) (f g : ℕ) (apart : g ≢ f) (a b : Fiber) (at : slice_get w.fibers f ≡ Some a) (there : slice_get w.fibers g ≡ Some b)
    (next : Place) (goes : entering (place k w) f ≡ Ok next) where
  module _ (x v : Wish) (is : wish_of (ask_of a) ≡ x) (wanted : wish_of (ask_of b) ≡ v) (birth : is_birth w f x ≡ true) (want : wants v ≡ true) where
    birth_on : (y z : Place) → entering (place k w) g ≡ Ok y → entering y f ≡ Ok z → IsBirth y f
    birth_on y z to on =
        let then : World = made w g b v in record {
          birth = subst (λ (p : Place). has_birth p.world f (slice_get p.world.fibers f) ≡ true) (leads_to k w g b there v wanted want y to)
              (ap (has_birth then f) (still_at w g b v f a apart at) ∙ ap (is_birth then f) is ∙ birth_later w f g b apart there v wanted x birth);
          next = z;
          goes = on;
        }

    by_quiet : AreQuiet k w.cells f a x g b v → Commutes entering IsBirth f next g (entering (place k w) g)
    by_quiet quiet =
        with_free IsBirth f next g (entering (place k w) g) birth_on
        (moves_meet k w f g apart a b at there x v is wanted (birth_wanted w f x birth) want quiet next goes)

  by_wishes : (x v : Wish) → wish_of (ask_of a) ≡ x → wish_of (ask_of b) ≡ v → is_birth w f x ≡ true → wants v ≡ true →
      Commutes entering IsBirth f next g (entering (place k w) g)
  by_wishes (Shared c) (Shared d) is wanted birth want =
      by_quiet (Shared c) (Shared d) is wanted birth want
      (quiet_clear k w.cells f a g b c d (clear_called w f g b apart there c d wanted birth))
  by_wishes x Alone is wanted birth want = by_quiet x Alone is wanted birth want (quiet_silent k w.cells f a g b x)
  by_wishes x Nothing is wanted birth want = absurd (cc)
  by_wishes Alone v is wanted birth want = absurd (cc)
  by_wishes Nothing v is wanted birth want = absurd (cc)

  birth_commutes : is_birth w f (wish_of (ask_of a)) ≡ true → wants (wish_of (ask_of b)) ≡ true → Commutes entering IsBirth f next g (entering (place k w) g)
  birth_commutes = by_wishes (wish_of (ask_of a)) (wish_of (ask_of b)) refl refl

-- ---- without the notes of joins
birth_call_bare : (w : World) (f : ℕ) (c : Call) → is_birth_call (unnoted w) f c ≡ is_birth_call w f c
birth_call_bare w f Start = refl
birth_call_bare w f NewRef = refl
birth_call_bare w f NewDeferred = refl
birth_call_bare w f _ = refl

is_birth_bare : (w : World) (f : ℕ) (x : Wish) → is_birth (unnoted w) f x ≡ is_birth w f x
is_birth_bare w f (Shared c) = birth_call_bare w f c
is_birth_bare w f Alone = refl
is_birth_bare w f Nothing = refl

has_birth_bare : (w : World) (f : ℕ) (o : Option Fiber) → has_birth (unnoted w) f o ≡ has_birth w f o
has_birth_bare w f None = refl
has_birth_bare w f (Some g) = is_birth_bare w f (wish_of (ask_of g))

birth_bare : (p : Place) (f : ℕ) → IsBirth p f → IsBirth (bare p) f
birth_bare p f h =
    let on = goes_bare (entering (bare p) f) (bare h.next) (entering_bare p f ∙ ap bared h.goes) in
    record { birth = has_birth_bare p.world f (slice_get p.world.fibers f) ∙ h.birth; next = on.0; goes = on.1 }

-- a fiber whose next move is a birth has a next move
birth_wants : (w : World) (f : ℕ) (g : Fiber) (x : Wish) → wish_of (ask_of g) ≡ x → is_birth w f x ≡ true →
    (wish_of (ask_of g) ≢ Nothing) × (moves_at (Some g) ≡ true)
birth_wants w f g (Shared c) e birth = (λ none. let no : Shared c ≡ Nothing = sym e ∙ none in cc, ap wants e)
birth_wants w f g Alone e birth = absurd (cc)
birth_wants w f g Nothing e birth = absurd (cc)

pub birth_moves : (w : World) (f : ℕ) (o : Option Fiber) → has_birth w f o ≡ true →
    (g : Fiber) × (o ≡ Some g) × (wish_of (ask_of g) ≢ Nothing) × (moves_at o ≡ true)
birth_moves w f None e = absurd (cc)
birth_moves w f (Some g) e = let both = birth_wants w f g (wish_of (ask_of g)) refl e in (g, refl, both.0, both.1)

birth_steps : (p : Place) (f : ℕ) → has_birth p.world f (slice_get p.world.fibers f) ≡ true → stepped p f ≡ bared (entering p f)
birth_steps p f birth = moves_step p f (birth_moves p.world f (slice_get p.world.fibers f) birth).3

pub birth_from : (p : Place) (f : ℕ) (q : Place) → has_birth p.world f (slice_get p.world.fibers f) ≡ true → stepped p f ≡ Ok q → IsBirth p f
birth_from p f q birth goes =
    let on = goes_bare (entering p f) q (sym (birth_steps p f birth) ∙ goes) in
    record { birth = birth; next = on.0; goes = on.1 }

here : (p : Place) (f : ℕ) (h : IsBirth p f) → stepped p f ≡ Ok (bare h.next)
here p f h = birth_steps p f h.birth ∙ ap bared h.goes

module _ (p : Place) (f : ℕ) (h : IsBirth p f) (g : ℕ) (apart : g ≢ f) where
  by_entry : (y : Result Place RunError) → Commutes entering IsBirth f h.next g y → Commutes stepped IsBirth f (bare h.next) g (bared y)
  by_entry (Ok y) pair = (
    birth_bare y f pair.0,
    bare pair.1,
    bare_step y f ∙ ap bared pair.2,
    bare_step h.next g ∙ ap bared pair.3,
  )
  by_entry (Err d) pair = bare_step h.next g ∙ ap bared pair

  by_fibers : (o m : Option Fiber) → slice_get p.world.fibers f ≡ o → slice_get p.world.fibers g ≡ m → has_birth p.world f o ≡ true → moves_at m ≡ true →
      Commutes stepped IsBirth f (bare h.next) g (bared (entering p g))
  by_fibers None m at there birth moves = absurd (cc)
  by_fibers (Some a) None at there birth moves = absurd (cc)
  by_fibers (Some a) (Some b) at there birth moves =
      by_entry (entering p g) (birth_commutes p.limits p.world f g apart a b at there h.next h.goes birth moves)

  -- the entry of a fiber without a next move need not commute: it can be that of the fiber that is started
  by_moves : (t : Bool) → moves_at (slice_get p.world.fibers g) ≡ t →
      (moves_at (slice_get p.world.fibers g) ≡ false) ⊎ Commutes stepped IsBirth f (bare h.next) g (stepped p g)
  by_moves true e =
      inr (subst (Commutes stepped IsBirth f (bare h.next) g) (sym (moves_step p g e))
      (by_fibers (slice_get p.world.fibers f) (slice_get p.world.fibers g) refl refl h.birth e))
  by_moves false e = inl e

  early_at : (moves_at (slice_get p.world.fibers g) ≡ false) ⊎ Commutes stepped IsBirth f (bare h.next) g (stepped p g)
  early_at = by_moves (moves_at (slice_get p.world.fibers g)) refl

-- ---- moves made at once
module _ (n : AtOnce) (f g : ℕ) (y : Place) where
  from_own : (z : Result Place RunError) → Commutes stepped (MayOwn n.stores) f y g z → Commutes stepped (IsMade n) f y g z
  from_own (Ok q) pair = (inl pair.0, pair.1, pair.2, pair.3)
  from_own (Err d) pair = pair

  from_birth : n.births ≡ true → (z : Result Place RunError) → Commutes stepped IsBirth f y g z → Commutes stepped (IsMade n) f y g z
  from_birth b (Ok q) pair = (inr (b, pair.0), pair.1, pair.2, pair.3)
  from_birth b (Err d) pair = pair

made_goes : (n : AtOnce) (p : Place) (f : ℕ) → IsMade n p f → (x : Place) × (stepped p f ≡ Ok x)
made_goes n p f (inl own) = (may_are_free n.stores).goes p f own
made_goes n p f (inr birth) = (bare birth.1.next, here p f birth.1)

pub made_pairs : (n : AtOnce) (p : Place) (f : ℕ) (y : Place) → IsMade n p f → stepped p f ≡ Ok y → (g : ℕ) → g ≢ f →
    (moves_at (slice_get p.world.fibers g) ≡ false) ⊎ Commutes stepped (IsMade n) f y g (stepped p g)
made_pairs n p f y (inl own) is g apart = inr (from_own n f g y (stepped p g) ((may_are_free n.stores).commutes p f y own is g apart))
made_pairs n p f y (inr birth) is g apart =
    let led : Ok (bare birth.1.next) ≡ Ok y = sym (here p f birth.1) ∙ is in
    let same : bare birth.1.next ≡ y = cc in
    elim (early_at p f birth.1 g apart) [
      | inl none ↦ inl none
      | inr pair ↦ inr (from_birth n f g y birth.0 (stepped p g) (subst (λ v. Commutes stepped IsBirth f v g (stepped p g)) same pair))
    ]

made_commutes : (n : AtOnce) (p : Place) (f : ℕ) (y : Place) → IsMade n p f → stepped p f ≡ Ok y → (g : ℕ) → g ≢ f →
    (stepped p g ≡ Ok p) ⊎ Commutes stepped (IsMade n) f y g (stepped p g)
made_commutes n p f y h is g apart = elim (made_pairs n p f y h is g apart) [
  | inl none ↦ inl (idle_stays p g none)
  | inr pair ↦ inr pair
]

-- own moves and births can be made early
pub made_early : (n : AtOnce) → AreEarly stepped (IsMade n)
made_early n = record { goes = made_goes n; commutes = made_commutes n }

-- without births they are free
no_births : (n : AtOnce) → n.births ≡ false → (p : Place) (f : ℕ) → IsMade n p f → MayOwn n.stores p f
no_births n none p f (inl own) = own
no_births n none p f (inr birth) = let no : true ≡ false = sym birth.0 ∙ none in absurd (cc)

pub own_free : (n : AtOnce) → n.births ≡ false → AreFree stepped (IsMade n)
own_free n none = record {
  goes = made_goes n;
  commutes = λ p f y h is g apart.
      from_own n f g y (stepped p g) ((may_are_free n.stores).commutes p f y (no_births n none p f h) is g apart);
}
