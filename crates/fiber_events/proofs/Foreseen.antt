-- Where an entry leads, by the move that was foreseen.
use Rattle.std.proofs.Common.{◌≡◌, ℕ, zero, suc, ◌+◌, List, [], ◌∷◌, ◌++◌, length, set, Ok, Err, refl, sym, ap, ◌∙◌, subst, append-nil, append_assoc}
use Rattle.std.{proofs.lemmas.List.Sums.fold_push, specs.{Prelude.{Option, Some, None, Result}, List.slice_get}}
use Rattle.effect_term.specs.declared.reply.Reply.{Reply}
use Rattle.fiber_frames.specs.{declared.mark.Mark.Mark, Fiber.{Fiber, ask_of, move, silent_move}}
use Rattle.cell_registry.specs.{declared.{limits.{Limits.Limits, RunError.RunError}, call.Call.Call}, Cells.{refusal, reply_of}, Plain.PlainView}
use Rattle.scheduled_core.specs.{declared.wish.Wish.{Wish, TheVariants.{Alone, Nothing, Shared}}, Core.{World, answered, born, called as the_call, entered}}
use Rattle.scheduled_core.specs.{Core.{turned, wish_of, wished}, Fitting.world_of, Private.Moving.Refuses}
use Rattle.fiber_events.specs.{declared.event.{Deed.Deed, Event.Event}, Events.{IsDeed, calls, alone, rests, IsEntry, moves, behind, AreEvents, one_more, led}}
use Rattle.fiber_events.specs.Private.Telling.{IsForeseen}
use Rattle.fiber_events.specs.declared.event.Deed.TheVariants as deed

-- an element that was set, with more at the end
pub get_put : {A : Type 0} (xs ys : List A) (f : ℕ) (a b : A) → slice_get xs f ≡ Some a → slice_get (set xs f b ++ ys) f ≡ Some b
get_put [] ys f a b e = absurd (cc)
get_put (x ∷ xs) ys zero a b e = refl
get_put (x ∷ xs) ys (suc f) a b e = get_put xs ys f a b e

pub get_set : {A : Type 0} (xs : List A) (f : ℕ) (a b : A) → slice_get xs f ≡ Some a → slice_get (set xs f b) f ≡ Some b
get_set [] f a b e = absurd (cc)
get_set (x ∷ xs) zero a b e = refl
get_set (x ∷ xs) (suc f) a b e = get_set xs f a b e

abbrev The_end : Type 0
The_end = Result World RunError

world_in : World → The_end → World
world_in d (Ok v) = v
world_in d (Err e) = d

same_Ok : (v w : World) (a : The_end) → a ≡ Ok v → a ≡ Ok w → v ≡ w
unfolding world_in
same_Ok v w a p q = ap (world_in v) (sym p ∙ q)

module _ (old : PlainView) (fibers : List Fiber) (f : ℕ) (g : Fiber) (at : slice_get fibers f ≡ Some g) where
  abbrev w : World
  w = world_of fibers old.state

  wishes : (x : Wish) → wish_of (ask_of g) ≡ x → entered old.limits (Ok w) f ≡ wished old.limits w f g x
  wishes x e = ap (turned old.limits w f) at ∙ ap (wished old.limits w f g) e

  -- an entry of a fiber that has no move
  pub stays : wish_of (ask_of g) ≡ Nothing → entered old.limits (Ok w) f ≡ Ok w
  stays wish = wishes Nothing wish

  called_to : (c : Call) → wish_of (ask_of g) ≡ Shared c → refusal old.limits old.state f c ≡ None → (v : World) →
      entered old.limits (Ok w) f ≡ Ok v → v ≡ the_call w f g c (reply_of old.state f c)
  called_to c wish room v goes = same_Ok v (the_call w f g c (reply_of old.state f c)) _ goes (wishes (Shared c) wish ∙ ap (answered w f g c) room)

  alone_to : wish_of (ask_of g) ≡ Alone → (v : World) → entered old.limits (Ok w) f ≡ Ok v → v ≡ record w { fibers = set fibers f (silent_move g) }
  alone_to wish v goes = same_Ok v (record w { fibers = set fibers f (silent_move g) }) _ goes (wishes Alone wish)

  -- the fiber after its move
  pub since : (new : PlainView) (d : Deed) → IsForeseen old f g new (Some d) → (v : World) → entered old.limits (Ok w) f ≡ Ok v → (h : Fiber) ×
      (slice_get v.fibers f ≡ Some h)
  since new deed.Alone foreseen v goes =
      (silent_move g, ap (λ (x : World). slice_get x.fibers f) (alone_to foreseen.0 v goes) ∙ get_set fibers f g (silent_move g) at)
  since new deed.Rested foreseen v goes =
      (silent_move g, ap (λ (x : World). slice_get x.fibers f) (alone_to foreseen.0 v goes) ∙ get_set fibers f g (silent_move g) at)
  since new (deed.Called c r) foreseen v goes =
      let s = reply_of old.state f c in
      (move g s, ap (λ (x : World). slice_get x.fibers f) (called_to c foreseen.0 foreseen.1.room v goes) ∙ get_put fibers (born g c s) f g (move g s) at)

  -- what the move does
  pub does : (new : PlainView) (d : Deed) → IsForeseen old f g new (Some d) → IsDeed w f g d
  does new deed.Alone foreseen = alone foreseen.0
  does new deed.Rested foreseen = rests foreseen.0 foreseen.1
  does new (deed.Called c r) foreseen = subst (λ (x : Reply). IsDeed w f g (deed.Called c x)) (sym foreseen.1.reply) (calls c foreseen.0)

  -- what the registry is that had the same call
  pub left : (new : PlainView) (d : Deed) → IsForeseen old f g new (Some d) → (v : World) → entered old.limits (Ok w) f ≡ Ok v →
      new ≡ record old { state = v.cells }
  left new deed.Alone foreseen v goes = foreseen.1 ∙ ap (λ (x : World). record old { state = x.cells }) (sym (alone_to foreseen.0 v goes))
  left new deed.Rested foreseen v goes = foreseen.2 ∙ ap (λ (x : World). record old { state = x.cells }) (sym (alone_to foreseen.0 v goes))
  left new (deed.Called c r) foreseen v goes = foreseen.1.left ∙
      ap (λ (x : World). record old { state = x.cells }) (sym (called_to c foreseen.0 foreseen.1.room v goes))

  pub left_same : (new now : PlainView) (d : Deed) → IsForeseen old f g new (Some d) → now.limits ≡ old.limits → (v : World) → now.state ≡ v.cells →
      entered old.limits (Ok w) f ≡ Ok v → new ≡ now
  left_same new now d foreseen limits v cells goes =
      left new d foreseen v goes ∙ (λ j. record { limits = sym limits j; state = sym cells j })

  -- the event of the entry
  pub told : (new : PlainView) (d : Deed) (m : Option Mark) (n : ℕ) (v : World) → IsForeseen old f g new (Some d) →
      entered old.limits (Ok w) f ≡ Ok v → ((h : Fiber) → slice_get v.fibers f ≡ Some h → m ≡ slice_get h.marks (length g.marks)) →
      IsEntry old.limits n f (Ok w) (record { entry = n; fiber = f; deed = d; mark = m } ∷ [])
  told new d m n v foreseen goes noted =
      let after = since new d foreseen v goes in
      moves w v _ goes record {
        entry = refl;
        fiber = refl;
        before = g;
        born = at;
        does = does new d foreseen;
        since = after.0;
        there = after.1;
        noted = noted after.0 after.1;
      }

  -- the fault of an entry that is refused
  pub refused_here : (e : RunError) → Refuses old f g e → entered old.limits (Ok w) f ≡ Err e
  refused_here e h = wishes (Shared h.call) h.wish ∙ ap (answered w f g h.call) h.refused ∙ ap Err (sym h.fault)

-- ---- a whole schedule
-- behind a fault there is nothing more
pub stuck : (k : Limits) (w : World) (e : RunError) (rest s : List ℕ) (events : List Event) → AreEvents k w s events → led k w s ≡ Err e →
    AreEvents k w (s ++ rest) events
stuck k w e [] s events h fault = subst (λ xs. AreEvents k w xs events) (sym (append-nil s)) h
stuck k w e (f ∷ rest) s events h fault =
    let next : AreEvents k w (s ++ f ∷ []) (events ++ []) =
    one_more s f events [] h (subst (λ (x : Result World RunError). IsEntry k (length s + 1) f x []) (sym fault) (behind e)) in
    let here : AreEvents k w (s ++ f ∷ []) events = subst (λ (es : List Event). AreEvents k w (s ++ f ∷ []) es) (append-nil events) next in
    let there : led k w (s ++ f ∷ []) ≡ Err e = fold_push (entered k) (Ok w) s f ∙ ap (λ (x : Result World RunError). entered k x f) fault in
    subst (λ (xs : List ℕ). AreEvents k w xs events) (append_assoc s (f ∷ []) rest) (stuck k w e rest (s ++ f ∷ []) events here there)
