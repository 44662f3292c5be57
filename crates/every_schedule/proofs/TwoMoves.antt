-- Moves of two fibers, neither of which depends on the other, lead to the same world in either order.
use Rattle.std.proofs.Common.{◌≡◌, ◌≢◌, ℕ, zero, suc, true, false, List, [], ◌∷◌, ◌++◌, set, Some, None, Option, Result, Ok, Err}
use Rattle.std.proofs.Common.{refl, sym, ap, ◌∙◌, subst, append_assoc, append-nil}
use Rattle.std.specs.List.{slice_get}
use Rattle.effect_term.specs.declared.reply.Reply.{Reply}
use Rattle.fiber_frames.specs.Fiber.{Fiber, ask_of, move, silent_move}
use Rattle.cell_registry.specs.declared.call.Call.{Call}
use Rattle.cell_registry.specs.declared.call.Call.TheVariants.{Start}
use Rattle.cell_registry.specs.declared.limits.Limits.{Limits}
use Rattle.cell_registry.specs.declared.limits.CellError.{CellError}
use Rattle.cell_registry.specs.declared.limits.RunError.{RunError}
use Rattle.cell_registry.specs.Cells.{Cells, refusal}
use Rattle.scheduled_core.specs.declared.wish.Wish.{Wish}
use Rattle.scheduled_core.specs.declared.wish.Wish.TheVariants.{Alone, Nothing, Shared}
use Rattle.scheduled_core.specs.Core.{World, answered, born, fault_of, turned, wish_of, wished}
use Rattle.scheduled_core.specs.Finals.{reply_to}
use Rattle.scheduled_core.proofs.Lists.{slice_get-set_other}
use Rattle.scheduled_core.proofs.Standing.Lists.{get_early}
use Rattle.world_search.specs.Chosen.{Meet}
use Rattle.world_search.specs.Free.{Commutes}
use Rattle.every_schedule.specs.Places.{Place, entering, moves_at, placed, wants}
use Rattle.every_schedule.proofs.OwnCalls.{IsCalm, left_by, other_refusal, other_reply, own_refusal, own_reply, swaps}

-- ---- lists
-- changes of elements, and further elements at the end, in either order
pub set_early : {A : Type 0} (xs ys : List A) (f : ℕ) (a b : A) → slice_get xs f ≡ Some a → set (xs ++ ys) f b ≡ set xs f b ++ ys
set_early [] ys f a b e = absurd (cc)
set_early (x ∷ xs) ys zero a b e = refl
set_early (x ∷ xs) ys (suc f) a b e = ap (λ l. x ∷ l) (set_early xs ys f a b e)

pub set_apart : {A : Type 0} (xs : List A) (f g : ℕ) (a b : A) → f ≢ g → set (set xs f a) g b ≡ set (set xs g b) f a
set_apart [] f g a b apart = refl
set_apart (x ∷ xs) zero zero a b apart = absurd (apart refl)
set_apart (x ∷ xs) zero (suc g) a b apart = refl
set_apart (x ∷ xs) (suc f) zero a b apart = refl
set_apart (x ∷ xs) (suc f) (suc g) a b apart = ap (λ l. x ∷ l) (set_apart xs f g a b (λ e. apart (ap suc e)))

-- two elements are changed, and each of the two changes adds further elements at the end
pub set_over : {A : Type 0} (l : List A) (f g : ℕ) (a b : A) → g ≢ f → slice_get l f ≡ Some a → slice_get l g ≡ Some b → (a' b' : A) (mine theirs : List A) →
    mine ++ theirs ≡ theirs ++ mine → set (set l g b' ++ theirs) f a' ++ mine ≡ set (set l f a' ++ mine) g b' ++ theirs
set_over l f g a b apart at there a' b' mine theirs swap =
    ap (λ m. m ++ mine) (set_early (set l g b') theirs f a a' (slice_get-set_other l g f b' apart ∙ at))
    ∙ append_assoc (set (set l g b') f a') theirs mine
    ∙ ap (λ m. set (set l g b') f a' ++ m) (sym swap)
    ∙ ap (λ m. m ++ (mine ++ theirs)) (set_apart l g f b' a' apart)
    ∙ sym (append_assoc (set (set l f a') g b') mine theirs)
    ∙ ap (λ m. m ++ theirs) (sym (set_early (set l f a') mine g b b' (slice_get-set_other l f g a' (λ e. apart (sym e)) ∙ there)))

-- ---- what a move makes of a world
-- the fiber that it starts
abbrev pub children : Fiber → Wish → Reply → List Fiber
children a (Shared c) r = born a c r
children a _ r = []

-- why its call is refused, if it is
abbrev pub refused : Limits → Cells → ℕ → Wish → Option CellError
refused k s f (Shared c) = refusal k s f c
refused k s f _ = None

-- the world after the move of fiber f, in state a, with this reply
abbrev replied : World → ℕ → Fiber → Wish → Reply → World
replied w f a x r = record { fibers = set w.fibers f (move a r) ++ children a x r; cells = left_by w.cells f x }

abbrev pub made : World → ℕ → Fiber → Wish → World
made w f a x = replied w f a x (reply_to w.cells f x)

abbrev led : World → ℕ → Fiber → Wish → Option CellError → Result World RunError
led w f a x None = Ok (made w f a x)
led w f a x (Some e) = Err (fault_of f e)

-- another fiber stays as it is
pub still_at : (w : World) (g : ℕ) (b : Fiber) (v : Wish) (f : ℕ) (a : Fiber) → g ≢ f → slice_get w.fibers f ≡ Some a →
    slice_get (made w g b v).fibers f ≡ Some a
still_at w g b v f a apart at =
    get_early (set w.fibers g (move b (reply_to w.cells g v))) (children b v (reply_to w.cells g v)) f a
    (slice_get-set_other w.fibers g f (move b (reply_to w.cells g v)) apart ∙ at)

-- the entry of a fiber without a next move changes nothing
idle_wished : (k : Limits) (w : World) (f : ℕ) (g : Fiber) (x : Wish) → wants x ≡ false → placed k (wished k w f g x) ≡ Ok (record { limits = k; world = w })
idle_wished k w f g (Shared c) e = absurd (cc)
idle_wished k w f g Alone e = absurd (cc)
idle_wished k w f g Nothing e = refl

idle_turned : (k : Limits) (w : World) (f : ℕ) (o : Option Fiber) → moves_at o ≡ false → placed k (turned k w f o) ≡ Ok (record { limits = k; world = w })
idle_turned k w f None e = refl
idle_turned k w f (Some g) e = idle_wished k w f g (wish_of (ask_of g)) e

pub idle_enters : (p : Place) (f : ℕ) → moves_at (slice_get p.world.fibers f) ≡ false → entering p f ≡ Ok p
idle_enters p f e = idle_turned p.limits p.world f (slice_get p.world.fibers f) e

-- a fiber that has a next move
pub born_wants : (o : Option Fiber) → moves_at o ≡ true → (b : Fiber) × (o ≡ Some b) × (wants (wish_of (ask_of b)) ≡ true)
born_wants None e = absurd (cc)
born_wants (Some b) e = (b, refl, e)

wished_led : (k : Limits) (w : World) (f : ℕ) (a : Fiber) (x : Wish) → wants x ≡ true → wished k w f a x ≡ led w f a x (refused k w.cells f x)
wished_led k w f a (Shared c) some = by (refusal k w.cells f c)
  where
    by : (o : Option CellError) → answered w f a c o ≡ led w f a (Shared c) o
    by None = refl
    by (Some e) = refl
wished_led k w f a Alone some =
    ap (λ (l : List Fiber). Ok (let v : World = record { fibers = l; cells = w.cells } in v)) (sym (append-nil (set w.fibers f (silent_move a))))
wished_led k w f a Nothing some = absurd (cc)

-- neither of two moves depends on the other
pub record AreQuiet (k : Limits) (s : Cells) (f : ℕ) (a : Fiber) (x : Wish) (g : ℕ) (b : Fiber) (v : Wish) : Type 0 where
  pub mine : reply_to (left_by s g v) f x ≡ reply_to s f x
  pub theirs : reply_to (left_by s f x) g v ≡ reply_to s g v
  pub cells : left_by (left_by s f x) g v ≡ left_by (left_by s g v) f x
  pub my_room : refused k (left_by s g v) f x ≡ refused k s f x
  pub their_room : refused k (left_by s f x) g v ≡ refused k s g v
  pub started : (r q : Reply) → children a x r ++ children b v q ≡ children b v q ++ children a x r

module _ (k : Limits) (s : Cells) (f : ℕ) (a : Fiber) (g : ℕ) (b : Fiber) where
  -- a move without a call
  pub quiet_silent : (x : Wish) → AreQuiet k s f a x g b Alone
  quiet_silent x = record {
    mine = refl;
    theirs = refl;
    cells = refl;
    my_room = refl;
    their_room = refl;
    started = λ r q. append-nil (children a x r);
  }

  module _ (d : Call) where
    -- a call, and one that changes nothing on which it depends
    childless : (x : Wish) → IsCalm s f g d x → (r : Reply) → children a x r ≡ []
    childless (Shared Start) calm r = absurd calm
    childless (Shared _) calm r = refl
    childless _ calm r = refl

    calm_room : g ≢ f → (x : Wish) → IsCalm s f g d x → refused k (left_by s g (Shared d)) f x ≡ refused k s f x
    calm_room apart (Shared c) calm = own_refusal s f g d apart k c calm
    calm_room apart Alone calm = refl
    calm_room apart Nothing calm = refl

    pub quiet_calm : g ≢ f → (x : Wish) → IsCalm s f g d x → AreQuiet k s f a x g b (Shared d)
    quiet_calm apart x calm = record {
      mine = own_reply s f g d apart x calm;
      theirs = other_reply s f g d apart x calm;
      cells = swaps s f g d apart x calm;
      my_room = calm_room apart x calm;
      their_room = other_refusal s f g d apart k x calm;
      started = λ r q.
          ap (λ l. l ++ born b d q) (childless x calm r) ∙ sym (append-nil (born b d q)) ∙ ap (λ l. born b d q ++ l) (sym (childless x calm r));
    }

-- ---- both moves, in either order
module _ (k : Limits) where
  abbrev pub place : World → Place
  place w = record { limits = k; world = w }

  pub entry : (w : World) (f : ℕ) (a : Fiber) → slice_get w.fibers f ≡ Some a → (x : Wish) → wish_of (ask_of a) ≡ x → wants x ≡ true →
      entering (place w) f ≡ placed k (led w f a x (refused k w.cells f x))
  entry w f a at x is some = ap (placed k) (ap (turned k w f) at ∙ ap (wished k w f a) is ∙ wished_led k w f a x some)

  module _ (w : World) (f g : ℕ) (apart : g ≢ f) (a b : Fiber) (at : slice_get w.fibers f ≡ Some a) (there : slice_get w.fibers g ≡ Some b)
      (x v : Wish) (is : wish_of (ask_of a) ≡ x) (wanted : wish_of (ask_of b) ≡ v) (some : wants x ≡ true) (want : wants v ≡ true)
      (quiet : AreQuiet k w.cells f a x g b v) where
    abbrev r : Reply
    r = reply_to w.cells f x

    abbrev q : Reply
    q = reply_to w.cells g v

    abbrev mine : World
    mine = made w f a x

    abbrev theirs : World
    theirs = made w g b v

    both : made theirs f a x ≡ made mine g b v
    both =
        ap (replied theirs f a x) quiet.mine
        ∙ ap (λ (l : List Fiber). let y : World = record { fibers = l; cells = left_by theirs.cells f x } in y)
        (set_over w.fibers f g a b apart at there (move a r) (move b q) (children a x r) (children b v q) (quiet.started r q))
        ∙ ap (λ (s : Cells). let y : World = record { fibers = set mine.fibers g (move b q) ++ children b v q; cells = s } in y) (sym quiet.cells)
        ∙ ap (replied mine g b v) (sym quiet.theirs)

    my_entry : (o : Option CellError) → refused k w.cells f x ≡ o → entering (place theirs) f ≡ placed k (led theirs f a x o)
    my_entry o room =
        entry theirs f a (still_at w g b v f a apart at) x is some
        ∙ ap (λ m. placed k (led theirs f a x m)) (quiet.my_room ∙ room)

    their_entry : (o : Option CellError) → refused k w.cells g v ≡ o → entering (place mine) g ≡ placed k (led mine g b v o)
    their_entry o room =
        entry mine g b (still_at w f a x g b (λ e. apart (sym e)) there) v wanted want
        ∙ ap (λ m. placed k (led mine g b v m)) (quiet.their_room ∙ room)

    meet_by : (o m : Option CellError) → refused k w.cells f x ≡ o → refused k w.cells g v ≡ m → (y : Place) → placed k (led w f a x o) ≡ Ok y →
        Meet entering f y g (placed k (led w g b v m))
    meet_by (Some e) m room stop y goes = absurd (cc)
    meet_by None (Some e) room stop y goes =
        let same : place mine ≡ y = cc in
        subst (λ z. entering z g ≡ Err (fault_of g e)) same (their_entry (Some e) stop)
    meet_by None None room stop y goes =
        let same : place mine ≡ y = cc in (
          place (made mine g b v),
          my_entry None room ∙ ap (λ (z : World). Ok (place z)) both,
          subst (λ z. entering z g ≡ Ok (place (made mine g b v))) same (their_entry None stop),
        )

    pub moves_meet : (y : Place) → entering (place w) f ≡ Ok y → Meet entering f y g (entering (place w) g)
    moves_meet y goes =
        subst (Meet entering f y g) (sym (entry w g b there v wanted want))
        (meet_by (refused k w.cells f x) (refused k w.cells g v) refl refl y (sym (entry w f a at x is some) ∙ goes))

    faults_by : (o m : Option CellError) → refused k w.cells f x ≡ o → (e : RunError) → placed k (led w f a x o) ≡ Err e → (y : Place) →
        placed k (led w g b v m) ≡ Ok y → entering y f ≡ Err e
    faults_by None m room e stops y goes = absurd (cc)
    faults_by (Some c) (Some d) room e stops y goes = absurd (cc)
    faults_by (Some c) None room e stops y goes =
        let same : place theirs ≡ y = cc in
        subst (λ z. entering z f ≡ Err e) same (my_entry (Some c) room ∙ stops)

    pub fault_stays : (e : RunError) → entering (place w) f ≡ Err e → (y : Place) → entering (place w) g ≡ Ok y → entering y f ≡ Err e
    fault_stays e stops y goes =
        faults_by (refused k w.cells f x) (refused k w.cells g v) refl e (sym (entry w f a at x is some) ∙ stops) y
        (sym (entry w g b there v wanted want) ∙ goes)

  -- where a move leads
  led_by : (w : World) (f : ℕ) (a : Fiber) (x : Wish) (o : Option CellError) (y : Place) → placed k (led w f a x o) ≡ Ok y → place (made w f a x) ≡ y
  led_by w f a x None y goes = cc
  led_by w f a x (Some e) y goes = absurd (cc)

  pub leads_to : (w : World) (f : ℕ) (a : Fiber) → slice_get w.fibers f ≡ Some a → (x : Wish) → wish_of (ask_of a) ≡ x → wants x ≡ true → (y : Place) →
      entering (place w) f ≡ Ok y → place (made w f a x) ≡ y
  leads_to w f a at x is some y goes = led_by w f a x (refused k w.cells f x) y (sym (entry w f a at x is some) ∙ goes)

-- two moves meet, and the first stays what it is
pub with_free : (Free : Place → ℕ → Type 0) (f : ℕ) (x : Place) (g : ℕ) (r : Result Place RunError) →
    ((y z : Place) → r ≡ Ok y → entering y f ≡ Ok z → Free y f) → Meet entering f x g r → Commutes entering Free f x g r
with_free Free f x g (Ok y) free met = (free y met.0 refl met.1, met.0, met.1, met.2)
with_free Free f x g (Err e) free met = met
