-- Own moves that are allowed at once when those that set or change a ref aren't: they are free, and keep the values of refs.
use Rattle.std.{proofs.Common.{◌≡◌, ◌≢◌, ℕ, Bool, true, false, ◌&&◌, set, Some, None, Option, Result, Ok, Err, refl, sym, ap, ◌∙◌, subst}, specs.List.slice_get}
use Rattle.fiber_frames.specs.Fiber.{Fiber, ask_of, move, silent_move}
use Rattle.cell_registry.specs.{declared.{limits.{Limits.Limits, CellError.CellError, RunError.RunError}, call.Call.Call}, Cells.{refusal, reply_of}}
use Rattle.scheduled_core.specs.{declared.wish.Wish.{Wish, TheVariants.{Shared, Alone, Nothing}}, Core.{World, answered, born, called, turned, wish_of, wished}}
use Rattle.scheduled_core.proofs.{Lists.slice_get-set_other, Standing.Lists.get_early}
use Rattle.world_search.specs.Free.{AreFree, Commutes}
use Rattle.every_schedule.{specs.{Places.{Place, placed, stepped}, Reduced.{IsOwn, MayOwn, has_own, may_be}}, proofs.Bare.{enters, own_are_free, Enters.Stays}}
use Rattle.every_schedule.proofs.Bare.Enters.{Goes}

pub two_true : (a b : Bool) → a && b ≡ true → (a ≡ true) × (b ≡ true)
two_true true b e = (refl, e)
two_true false b e = absurd (cc)

-- ---- the entry of one fiber leaves the others as they are
module _ (k : Limits) (w : World) (g f : ℕ) (apart : g ≢ f) (a : Fiber) (at : slice_get w.fibers f ≡ Some a) where
  other_answered : (b : Fiber) (d : Call) (o : Option CellError) (x : Place) → placed k (answered w g b d o) ≡ Ok x → slice_get x.world.fibers f ≡ Some a
  other_answered b d None x e =
      let q = reply_of w.cells g d in
      let same : record { limits = k; world = called w g b d q } ≡ x = cc in
      subst (λ (y : Place). slice_get y.world.fibers f ≡ Some a) same
      (get_early (set w.fibers g (move b q)) (born b d q) f a (slice_get-set_other w.fibers g f (move b q) apart ∙ at))
  other_answered b d (Some c) x e = absurd (cc)

  other_wished : (b : Fiber) (v : Wish) (x : Place) → placed k (wished k w g b v) ≡ Ok x → slice_get x.world.fibers f ≡ Some a
  other_wished b (Shared d) x e = other_answered b d (refusal k w.cells g d) x e
  other_wished b Alone x e =
      let same : record { limits = k; world = record { fibers = set w.fibers g (silent_move b); cells = w.cells } } ≡ x = cc in
      subst (λ (y : Place). slice_get y.world.fibers f ≡ Some a) same (slice_get-set_other w.fibers g f (silent_move b) apart ∙ at)
  other_wished b Nothing x e =
      let same : record { limits = k; world = w } ≡ x = cc in
      subst (λ (y : Place). slice_get y.world.fibers f ≡ Some a) same at

  other_turned : (o : Option Fiber) (x : Place) → placed k (turned k w g o) ≡ Ok x → slice_get x.world.fibers f ≡ Some a
  other_turned None x e =
      let same : record { limits = k; world = w } ≡ x = cc in
      subst (λ (y : Place). slice_get y.world.fibers f ≡ Some a) same at
  other_turned (Some b) x e = other_wished b (wish_of (ask_of b)) x e

pub other_stays : (p q : Place) (g f : ℕ) → g ≢ f → (a : Fiber) → slice_get p.world.fibers f ≡ Some a → stepped p g ≡ Ok q →
    slice_get q.world.fibers f ≡ Some a
other_stays p q g f apart a at e = elim (enters p g q e) [
  | Stays is ↦ subst (λ (y : Place). slice_get y.world.fibers f ≡ Some a) is at
  | Goes x goes is ↦ subst (λ (y : Place). slice_get y.world.fibers f ≡ Some a) is
      (other_turned p.limits p.world g f apart a at (slice_get p.world.fibers g) x goes)
]

-- ---- these moves are free
born_of : (w : World) (f : ℕ) (o : Option Fiber) → has_own w f o ≡ true → (a : Fiber) × (o ≡ Some a)
born_of w f None e = absurd (cc)
born_of w f (Some a) e = (a, refl)

may_stay : (stores : Bool) (p q : Place) (f g : ℕ) → MayOwn stores p f → g ≢ f → stepped p g ≡ Ok q → IsOwn q f → MayOwn stores q f
may_stay stores p q f g h apart e own =
    let a = born_of p.world f (slice_get p.world.fibers f) h.own.own in
    record { own = own; may = ap (may_be stores) (other_stays p q g f apart a.0 a.1 e ∙ sym a.1) ∙ h.may }

may_commute : (stores : Bool) (p y : Place) (f g : ℕ) → MayOwn stores p f → g ≢ f → (z : Result Place RunError) → stepped p g ≡ z →
    Commutes stepped IsOwn f y g z → Commutes stepped (MayOwn stores) f y g z
may_commute stores p y f g h apart (Ok q) e pair = (may_stay stores p q f g h apart e pair.0, pair.1, pair.2, pair.3)
may_commute stores p y f g h apart (Err d) e pair = pair

pub may_are_free : (stores : Bool) → AreFree stepped (MayOwn stores)
may_are_free stores = record {
  goes = λ p f h. own_are_free.goes p f h.own;
  commutes = λ p f y h is g apart. may_commute stores p y f g h apart (stepped p g) refl (own_are_free.commutes p f y h.own is g apart);
}
