-- The next move of a fiber that fits its cell, and the entry of a schedule that it is.
use Rattle.std.proofs.Common.{◌≡◌, ℕ, ◌<◌, ◌≤◌, ◌^◌, List, [], ◌∷◌, ◌++◌, length, set, Ok, Err, refl, sym, ap, ◌∙◌, subst, arith, append-nil, inl}
use Rattle.std.{proofs.lemmas.Option.slice_get_past, specs.{Prelude.{◌⊎◌, Option, Some, None, Result, IfErr, IfOk, OnOk}, Option.option_to_list, List.fold}}
use Rattle.std.specs.List.{slice_get}
use Rattle.derived_ops.specs.Tree.{Tree}
use Rattle.effect_term.specs.declared.reply.Reply.{Reply}
use Rattle.fiber_frames.specs.{declared.ask.Ask.Ask, Rows.{RowKind, Born, Ended, number_in}, Fiber.{Fiber, ask_of, begins, child}}
use Rattle.fiber_frames.specs.{Fiber.{kind_of, move}, Moves.{moved, told}, Answers.Answers, Leading.{GoesOn, IsBirth, KindFits}}
use Rattle.cell_registry.specs.{declared.{limits.{Limits.Limits, RunError.RunError}, call.Call.Call}, Cells.{after, opening, refusal, reply_of}, Plain.IsPlain}
use Rattle.cell_registry.specs.Plain.{MayCall, PlainView, new_plain}
use Rattle.scheduled_core.specs.{declared.wish.Wish.{Wish, TheVariants.{Alone, Nothing, Shared}}, Core.{World, answered, born, core, entered, turned, wish_of}}
use Rattle.scheduled_core.specs.{Core.wished, Fitting.{AllFit, Fits, cell_registered, world_of}, Permits.IsInRange, Private.{Asking.Asking, Moving.Goes}}
use Rattle.scheduled_core.{specs.Private.Moving.{Made, Moves, Refuses, Replied, Rests, Unshared, children}, proofs.{Answered.alone_answers, Fitted.If_shared}}
use Rattle.scheduled_core.proofs.{Fitted.at_call, Lists.set-same, PlainFits.plain_allowed, Worlds.{all_alone, all_called, plain_answers}}
use Rattle.effect_term.specs.declared.reply.Reply.TheVariants as reply
use Rattle.fiber_frames.specs.declared.ask.Ask.TheVariants as ask
use Rattle.cell_registry.specs.declared.limits.RunError.TheVariants as run

-- ---- the conditions of a move
pub may_call : (p : PlainView) (f : ℕ) (g : Fiber) (c : Call) → IsPlain p → Fits (cell_registered p.state f) g → Asking g →
    wish_of (ask_of g) ≡ Shared c → IsInRange c → MayCall p f c
may_call p f g c lawful fits asks wish range = record {
  born = fits.born;
  allowed = plain_allowed p.limits p.state f g c lawful.sound fits asks wish range;
}

pub replied_answers : (old new : PlainView) (f : ℕ) (g : Fiber) (r : Reply) → Fits (cell_registered old.state f) g → Replied old f g r new →
    Answers g.number (ask_of g) r
replied_answers old new f g r fits (Unshared wish is same) = subst (Answers g.number (ask_of g)) (sym is) (alone_answers g.number (ask_of g) wish)
replied_answers old new f g r fits (Made c wish made) =
    let low = fits.born in
    subst (Answers g.number (ask_of g)) (sym made.reply)
    (plain_answers old.state f g.number (ask_of g) c wish (subst (λ n. n < old.state.next_fiber) (sym fits.number) low))

-- a fiber has entered fewer masks than the next mask number may have
pub few_masks : (p : PlainView) (f : ℕ) (g : Fiber) → IsPlain p → Fits (cell_registered p.state f) g → g.next < 2 ^ 63
few_masks p f g lawful fits =
    let made = (lawful.sound.each_cell f).count in
    let most = lawful.limits.count in
    let less = fits.next in
    omega arith

-- ---- the child of a move
no_child : (x : Fiber) (k : RowKind) → GoesOn k → children (told x k) ≡ []
no_child x (Born t) h = absurd h
no_child x (Ended o) h = absurd h
no_child x _ h = refl

one_child : (x : Fiber) (k : RowKind) → IsBirth k → children (told x k) ≡ x ∷ []
one_child x (Born t) h = refl
one_child x _ h = absurd h

shared_children : (g : Fiber) (r : Reply) (a : Ask) (k : RowKind) → KindFits a k →
    If_shared (wish_of a) (λ c. children (told (child g (number_in r)) k) ≡ born g c r)
shared_children g r ask.Start k h = one_child _ k h
shared_children g r (ask.Finish o) k h = ap (λ x. children (told (child g (number_in r)) x)) h
shared_children g r ask.Silent k h = tt
shared_children g r (ask.Over o) k h = tt
shared_children g r ask.Broken k h = tt
shared_children g r _ k h = no_child _ k h

alone_children : (x : Fiber) (a : Ask) (k : RowKind) → wish_of a ≡ Alone → KindFits a k → children (told x k) ≡ []
alone_children x ask.Start k e h = absurd (cc)
alone_children x (ask.Finish o) k e h = absurd (cc)
alone_children x _ k e h = no_child x k h

-- ---- the entry
-- where an entry of fiber f leads, and that all fibers fit there
pub record Entered (old : PlainView) (fibers : List Fiber) (f : ℕ) (new : PlainView) (after : Fiber) (born : List Fiber) : Type 0 where
  pub limits : new.limits ≡ old.limits
  pub goes : entered old.limits (Ok (world_of fibers old.state)) f ≡ Ok (world_of (set fibers f after ++ born) new.state)
  pub fits : AllFit (world_of (set fibers f after ++ born) new.state)

module _ (old : PlainView) (fibers : List Fiber) (f : ℕ) (g : Fiber) (all : AllFit (world_of fibers old.state)) (lawful : IsPlain old)
    (at : slice_get fibers f ≡ Some g) where
  abbrev w : World
  w = world_of fibers old.state

  wishes : (x : Wish) → wish_of (ask_of g) ≡ x → entered old.limits (Ok w) f ≡ wished old.limits w f g x
  wishes x e = ap (turned old.limits w f) at ∙ ap (wished old.limits w f g) e

  rests : wish_of (ask_of g) ≡ Nothing → Entered old fibers f old g []
  rests wish =
      let same : set fibers f g ++ [] ≡ fibers = append-nil (set fibers f g) ∙ set-same fibers f g at in
      record {
        limits = refl;
        goes = wishes Nothing wish ∙ ap (λ xs. Ok (world_of xs old.state)) (sym same);
        fits = subst (λ xs. AllFit (world_of xs old.state)) (sym same) all;
      }

  alone : Asking g → wish_of (ask_of g) ≡ Alone → Entered old fibers f old (move g reply.Done) []
  alone asks wish =
      let same = append-nil (set fibers f (move g reply.Done)) in
      record {
        limits = refl;
        goes = wishes Alone wish ∙ ap (λ xs. Ok (world_of xs old.state)) (sym same);
        fits = subst (λ xs. AllFit (world_of xs old.state)) (sym same) (all_alone w f g all at asks wish);
      }

  made : Asking g → (c : Call) → wish_of (ask_of g) ≡ Shared c → refusal old.limits old.state f c ≡ None →
      Entered old fibers f (record old { state = after old.state f c }) (move g (reply_of old.state f c)) (born g c (reply_of old.state f c))
  made asks c wish room = record {
    limits = refl;
    goes = wishes (Shared c) wish ∙ ap (answered w f g c) room;
    fits = all_called old.limits w f g c all lawful.sound at asks wish;
  }

  replied : Asking g → (r : Reply) (new : PlainView) → Replied old f g r new → Entered old fibers f new (move g r) (children (moved g r))
  replied asks r new (Unshared wish is same) =
      let none : children (moved g reply.Done) ≡ [] =
      alone_children _ (ask_of g) (kind_of g reply.Done) wish (asks.leads reply.Done (alone_answers g.number (ask_of g) wish)).kind in
      subst (λ (n : PlainView). Entered old fibers f n (move g r) (children (moved g r))) (sym same)
      (subst (λ (x : Reply). Entered old fibers f old (move g x) (children (moved g x))) (sym is)
      (subst (λ ks. Entered old fibers f old (move g reply.Done) ks) (sym none) (alone asks wish)))
  replied asks r new (Made c wish m) =
      let s = reply_of old.state f c in
      let fits = all.each f g at in
      let own : Answers g.number (ask_of g) s = subst (Answers g.number (ask_of g)) m.reply (replied_answers old new f g r fits (Made c wish m)) in
      let kids : children (moved g s) ≡ born g c s =
      at_call (wish_of (ask_of g)) c (λ d. children (moved g s) ≡ born g d s) wish (shared_children g s (ask_of g) (kind_of g s) (asks.leads s own).kind) in
      subst (λ (n : PlainView). Entered old fibers f n (move g r) (children (moved g r))) (sym m.left)
      (subst (λ (x : Reply). Entered old fibers f (record old { state = after old.state f c }) (move g x) (children (moved g x))) (sym m.reply)
      (subst (λ ks. Entered old fibers f (record old { state = after old.state f c }) (move g s) ks) (sym kids) (made asks c wish m.room)))

  pub moved_entered : (new : PlainView) (after : Fiber) (born : List Fiber) → Moves old f g new after born → Entered old fibers f new after born
  moved_entered new after born (Rests wish same left none) =
      subst (λ x. Entered old fibers f new x born) (sym same)
      (subst (λ (n : PlainView). Entered old fibers f n g born) (sym left) (subst (λ ks. Entered old fibers f old g ks) (sym none) (rests wish)))
  moved_entered new after born (Goes asks r reply same kids) =
      subst (λ x. Entered old fibers f new x born) (sym same) (subst (λ ks. Entered old fibers f new (move g r) ks) (sym kids) (replied asks r new reply))

  pub refused_entered : (e : RunError) → Refuses old f g e → entered old.limits (Ok w) f ≡ Err e
  refused_entered e h = wishes (Shared h.call) h.wish ∙ ap (answered w f g h.call) h.refused ∙ ap Err (sym h.fault)

-- what is told of a call that makes a move is told of the entry
pub goes_on : (old : PlainView) (f : ℕ) (g : Fiber) (new : PlainView) (after : Fiber) (r : Reply)
    (it : Result (Option Fiber) RunError) → Asking g → Replied old f g r new → OnOk it (after ≡ move g r)
    → IfOk it (λ child. option_to_list child ≡ children (moved g r))
    → IfOk it (λ child. Moves old f g new after (option_to_list child))
goes_on old f g new after r (Ok child) asks replied state born = Goes asks r replied state born
goes_on old f g new after r (Err e) asks replied state born = tt

pub lacks_memory : (old : PlainView) (f : ℕ) (g : Fiber) (it : Result (Option Fiber) RunError)
    → IfErr it (λ e. e ≡ run.NoMemory) → IfErr it (λ e. (e ≡ run.NoMemory) ⊎ Refuses old f g e)
lacks_memory old f g (Ok child) h = tt
lacks_memory old f g (Err e) h = inl h

-- an entry of a fiber that isn't born changes nothing
pub unborn_entered : (k : Limits) (w : World) (f : ℕ) → length w.fibers ≤ f → entered k (Ok w) f ≡ Ok w
unborn_entered k w f past = ap (turned k w f) (slice_get_past w.fibers f past)

-- the opening
pub core-opened : (k : Limits) (code : Tree) (r : PlainView) (fibers : List Fiber) (schedule : List ℕ) → fibers ≡ begins 0 code ∷ [] →
    r ≡ new_plain k → fold (entered r.limits) (Ok (world_of fibers r.state)) schedule ≡ core code k schedule
unfolding core
core-opened k code r fibers schedule first opened =
    ap (λ (x : PlainView). fold (entered x.limits) (Ok (world_of fibers x.state)) schedule) opened
    ∙ ap (λ (fs : List Fiber). fold (entered k) (Ok (world_of fs (opening k))) schedule) first
