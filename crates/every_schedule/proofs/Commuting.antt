-- A fiber's own move commutes with each move of another fiber.
use Rattle.std.proofs.Common.{◌≡◌, ◌≢◌, Bool, true, false, ℕ, List, [], ◌++◌, set, Some, None, Option, Ok, refl, sym, ap, ◌∙◌, subst, append-nil}
use Rattle.std.specs.List.{slice_get}
use Rattle.effect_term.specs.declared.reply.Reply.{Reply}
use Rattle.fiber_frames.specs.Fiber.{Fiber, ask_of, move}
use Rattle.cell_registry.specs.declared.limits.Limits.{Limits}
use Rattle.cell_registry.specs.declared.call.Call.TheVariants.{Start}
use Rattle.scheduled_core.specs.declared.wish.Wish.{Wish}
use Rattle.scheduled_core.specs.declared.wish.Wish.TheVariants.{Alone, Nothing, Shared}
use Rattle.scheduled_core.specs.Core.{World, wish_of}
use Rattle.scheduled_core.specs.Finals.{reply_to}
use Rattle.scheduled_core.proofs.Lists.{slice_get-set_other}
use Rattle.world_search.specs.Free.{AreFree, Commutes}
use Rattle.every_schedule.specs.Places.{Place, entering, moves_at, wants}
use Rattle.every_schedule.specs.Reduced.{IsOwn, has_own, is_own}
use Rattle.every_schedule.proofs.OwnKept.{calm_called, kept_later}
use Rattle.every_schedule.proofs.TwoMoves.{AreQuiet, born_wants, children, idle_enters, leads_to, made, moves_meet, place, quiet_calm, quiet_silent}
use Rattle.every_schedule.proofs.TwoMoves.{still_at, with_free}

-- a fiber that has an own move has a next move, which starts no fiber
pub own_wants : (w : World) (f : ℕ) (g : Fiber) (x : Wish) → is_own w f g x ≡ true → wants x ≡ true
own_wants w f g (Shared c) e = refl
own_wants w f g Alone e = refl
own_wants w f g Nothing e = absurd (cc)

childless : (a : Fiber) (w : World) (f : ℕ) (x : Wish) (r : Reply) → is_own w f a x ≡ true → children a x r ≡ []
childless a w f (Shared Start) r own = absurd (cc)
childless a w f (Shared _) r own = refl
childless a w f Alone r own = refl
childless a w f Nothing r own = refl

module _ (k : Limits) (w : World) (f g : ℕ) (apart : g ≢ f) (a : Fiber) (at : slice_get w.fibers f ≡ Some a) (next : Place)
    (goes : entering (place k w) f ≡ Ok next) where
  module _ (x : Wish) (is : wish_of (ask_of a) ≡ x) (own : is_own w f a x ≡ true) where
    some : wants x ≡ true
    some = own_wants w f a x own

    -- a fiber without a next move
    same_fiber : slice_get (made w f a x).fibers g ≡ slice_get w.fibers g
    same_fiber =
        let r = reply_to w.cells f x in
        ap (λ l. slice_get (set w.fibers f (move a r) ++ l) g) (childless a w f x r own)
        ∙ ap (λ (l : List Fiber). slice_get l g) (append-nil (set w.fibers f (move a r)))
        ∙ slice_get-set_other w.fibers f g (move a r) (λ e. apart (sym e))

    idle_next : moves_at (slice_get w.fibers g) ≡ false → entering next g ≡ Ok next
    idle_next none =
        subst (λ y. entering y g ≡ Ok y) (leads_to k w f a at x is some next goes) (idle_enters (place k (made w f a x)) g (ap moves_at same_fiber ∙ none))

    -- one that has a next move
    quiet : (b : Fiber) → slice_get w.fibers g ≡ Some b → (v : Wish) → wish_of (ask_of b) ≡ v → wants v ≡ true → AreQuiet k w.cells f a x g b v
    quiet b there (Shared d) wanted want = quiet_calm k w.cells f a g b d apart x (calm_called w f g b apart there a d wanted x own)
    quiet b there Alone wanted want = quiet_silent k w.cells f a g b x
    quiet b there Nothing wanted want = absurd (cc)

    own_on : (b : Fiber) → slice_get w.fibers g ≡ Some b → wants (wish_of (ask_of b)) ≡ true → (y z : Place) → entering (place k w) g ≡ Ok y →
        entering y f ≡ Ok z → IsOwn y f
    own_on b there want y z to on =
        let v = wish_of (ask_of b) in
        let then : World = made w g b v in record {
          own = subst (λ (p : Place). has_own p.world f (slice_get p.world.fibers f) ≡ true) (leads_to k w g b there v refl want y to)
              (ap (has_own then f) (still_at w g b v f a apart at) ∙ ap (is_own then f a) is ∙ kept_later w f g b apart there v refl want a x own);
          next = z;
          goes = on;
        }

    both_move : (b : Fiber) → slice_get w.fibers g ≡ Some b → wants (wish_of (ask_of b)) ≡ true → Commutes entering IsOwn f next g (entering (place k w) g)
    both_move b there want =
        let v = wish_of (ask_of b) in
        with_free IsOwn f next g (entering (place k w) g) (own_on b there want)
        (moves_meet k w f g apart a b at there x v is refl some want (quiet b there v refl want) next goes)

  own_commutes : is_own w f a (wish_of (ask_of a)) ≡ true → Commutes entering IsOwn f next g (entering (place k w) g)
  own_commutes own = by (moves_at (slice_get w.fibers g)) refl
    where
      by : (t : Bool) → moves_at (slice_get w.fibers g) ≡ t → Commutes entering IsOwn f next g (entering (place k w) g)
      by true moves = let b = born_wants (slice_get w.fibers g) moves in both_move (wish_of (ask_of a)) refl own b.0 b.1 b.2
      by false none =
          subst (Commutes entering IsOwn f next g) (sym (idle_enters (place k w) g none)) (
            record { own = ap (has_own w f) at ∙ own; next = next; goes = goes },
            next,
            goes,
            idle_next (wish_of (ask_of a)) refl own none,
          )

own_commutes_at : (p : Place) (f : ℕ) (next : Place) → entering p f ≡ Ok next → (g : ℕ) → g ≢ f → (o : Option Fiber) → slice_get p.world.fibers f ≡ o →
    has_own p.world f o ≡ true → Commutes entering IsOwn f next g (entering p g)
own_commutes_at p f next goes g apart None at own = absurd (cc)
own_commutes_at p f next goes g apart (Some a) at own = own_commutes p.limits p.world f g apart a at next goes own

-- own moves are free in the core
pub own_enter : AreFree entering IsOwn
own_enter = record {
  goes = λ p f h. (h.next, h.goes);
  commutes = λ p f y h is g apart. own_commutes_at p f y is g apart (slice_get p.world.fibers f) refl h.own;
}
