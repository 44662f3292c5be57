-- A world whose fibers all fit their cells, over one entry of a schedule.
use Rattle.std.proofs.Common.{◌≡◌, inl, inr, ℕ, zero, suc, ◌+◌, ◌<◌, [], ◌∷◌, length, set, Some, refl, sym, ap, ◌∙◌, subst, arith, length-set}
use Rattle.std.{proofs.lemmas.{Option.same_Some, List.length-append}, specs.List.slice_get}
use mathlib.Core.Logic.{dite}
use native.Mathlib.Decide.{ℕ_discrete}
use Rattle.effect_term.specs.declared.reply.Reply.{Reply}
use Rattle.fiber_frames.specs.{declared.ask.Ask.Ask, Rows.number_in, Fiber.{Fiber, ask_of, begins, child, move, silent_move}, Answers.Answers}
use Rattle.fiber_frames.{specs.Naming.NamedBeginning, proofs.NamedMoves.run_more}
use Rattle.cell_registry.specs.{declared.{limits.Limits.Limits, cell.Stage.TheVariants.Running, call.Call.Call}, Cells.{AreLimits, Cells, IsSound, after}}
use Rattle.cell_registry.{specs.Cells.{cell_of, fresh, opening, owned, reply_of}, proofs.Calls.{next_fiber-rises, owned-after}}
use Rattle.cell_registry.proofs.Lists.{get_or-replicate_default}
use Rattle.scheduled_core.specs.{declared.wish.Wish.TheVariants.{Shared, Alone}, Core.{World, born, called, first_world, wish_of}, Fitting.{AllFit, Fits}}
use Rattle.scheduled_core.{specs.{Fitting.{cell_registered, given_by, new_registered}, Private.Asking.Asking}, proofs.Answered.called_answers}
use Rattle.scheduled_core.proofs.{Fitted.fits_alone, PlainFits.{fits_as, fits_more, given_rises, plain_other, plain_own}, Replied.begins_fits, Lists.parted}
use Rattle.scheduled_core.proofs.Lists.{slice_get-set_same, slice_get-set_other}
use Rattle.derived_ops.specs.{Naming.{Given, IsMore}, Tree.Tree}
use Rattle.fiber_frames.specs.declared.ask.Ask.TheVariants as ask
use Rattle.cell_registry.specs.declared.call.Call.TheVariants as call

-- how many fibers a call makes
next_fiber-after : (s : Cells) (by : ℕ) (c : Call) (g : Fiber) (r : Reply) → (after s by c).next_fiber ≡ s.next_fiber + length (born g c r)
unfolding after
next_fiber-after s by call.Start g r = refl
next_fiber-after s by _ g r = omega arith

pub plain_answers : (s : Cells) (i n : ℕ) (a : Ask) (c : Call) → wish_of a ≡ Shared c → n < s.next_fiber → Answers n a (reply_of s i c)
unfolding reply_of
plain_answers s i n ask.Start c w h = let same : call.Start ≡ c = cc in subst (λ c. Answers n ask.Start (reply_of s i c)) same h
plain_answers s i n a c w h = called_answers s i n a c w (λ e. (let q : wish_of a ≡ Shared call.Start = w ∙ ap Shared e in cc))

started : (s : Cells) (by : ℕ) → s.next_fiber < (after s by call.Start).next_fiber
unfolding after
started s by = omega arith

number_is : (s : Cells) (by : ℕ) (c : Call) → c ≡ call.Start → number_in (reply_of s by c) ≡ s.next_fiber
unfolding reply_of
number_is s by c e = ap (λ d. number_in (reply_of s by d)) e

-- the only child of a call, where it makes one
born_one : (g : Fiber) (c : Call) (r : Reply) (j : ℕ) (x : Fiber) → slice_get (born g c r) j ≡ Some x → (j ≡ 0) × (c ≡ call.Start) × (x ≡ child g (number_in r))
born_one g call.Start r zero x e = (refl, refl, sym (same_Some (child g (number_in r)) x e))
born_one g call.Start r (suc j) x e = absurd (cc)
born_one g _ r j x e = cc

module _ (k : Limits) (w : World) (f : ℕ) (g : Fiber) (c : Call) (all : AllFit w) (sound : IsSound k w.cells) (at : slice_get w.fibers f ≡ Some g)
    (asks : Asking g) (wish : wish_of (ask_of g) ≡ Shared c) where
  abbrev r : Reply
  r = reply_of w.cells f c

  fits : Fits (cell_registered w.cells f) g
  fits = all.each f g at

  low : f < w.cells.next_fiber
  low = fits.born

  answers : Answers g.number (ask_of g) r
  answers = plain_answers w.cells f g.number (ask_of g) c wish (subst (λ n. n < w.cells.next_fiber) (sym fits.number) low)

  own : Fits (cell_registered (after w.cells f c) f) (move g r)
  own = plain_own w.cells f g c (let cells = sound.fibers in let most = sound.next_fiber in let l = low in omega arith) fits asks wish answers

  -- the child of a start
  young : c ≡ call.Start → Fits (cell_registered (after w.cells f c) w.cells.next_fiber) (child g w.cells.next_fiber)
  young start =
      let n = w.cells.next_fiber in
      let s = after w.cells f c in
      let up : n < s.next_fiber = subst (λ d. n < (after w.cells f d).next_fiber) (sym start) (started w.cells f) in
      let more = given_rises w.cells f c in
      let b = given_by s in
      let fresh : Fits (new_registered n b) (child g n) =
      begins_fits b n _ (asks.child_names b n (run_more (given_by w.cells) b more g.running fits.names)) up in
      let here : (Running, 0, 0) ≡ owned (cell_of s n) = sym (owned-after w.cells f c n (λ e. let l = low in omega arith) ∙ all.unborn n (omega arith)) in
      let owns = fits_as (new_registered n b) (owned (cell_of s n)) b (child g n) fresh here
      (record { fibers = omega arith; refs = omega arith; deferreds = omega arith }) in
      fits_more _ (cell_of s n).request (child g n) owns (λ e. absurd (cc))

  pub all_called : AllFit (called w f g c r)
  all_called = record {
    many =
        length-append (set w.fibers f (move g r)) (born g c r) ∙ ap (λ n. n + length (born g c r)) (length-set w.fibers f (move g r) ∙ all.many)
        ∙ sym (next_fiber-after w.cells f c g r);
    each = λ i x e. elim (parted (set w.fibers f (move g r)) (born g c r) i x e) [
      | inl h ↦ dite (ℕ_discrete f i)
          (λ (same : f ≡ i).
          let there : slice_get (set w.fibers f (move g r)) f ≡ Some x = subst (λ m. slice_get (set w.fibers f (move g r)) m ≡ Some x) (sym same) h in
          let one : move g r ≡ x = same_Some (move g r) x (sym (slice_get-set_same w.fibers f g (move g r) at) ∙ there) in
          subst (λ (y : Fiber). Fits (cell_registered (after w.cells f c) i) y) one
          (subst (λ m. Fits (cell_registered (after w.cells f c) m) (move g r)) same own))
          (λ apart.
          let there : slice_get w.fibers i ≡ Some x = sym (slice_get-set_other w.fibers f i (move g r) apart) ∙ h in
          plain_other w.cells f c i x apart (all.each i x there))
      | inr h ↦
          let b = born_one g c r h.0 x h.2 in
          let long : length (set w.fibers f (move g r)) ≡ w.cells.next_fiber = length-set w.fibers f (move g r) ∙ all.many in
          let place : w.cells.next_fiber ≡ i = (let is = h.1 in let none = b.0 in omega arith) in
          let one : child g w.cells.next_fiber ≡ x = ap (child g) (sym (number_is w.cells f c b.1)) ∙ sym b.2 in
          subst (λ (y : Fiber). Fits (cell_registered (after w.cells f c) i) y) one
          (subst (λ m. Fits (cell_registered (after w.cells f c) m) (child g w.cells.next_fiber)) place (young b.1))
    ];
    unborn = λ i h.
        let rises = next_fiber-rises w.cells f c in
        owned-after w.cells f c i (λ e. let l = low in omega arith) ∙ all.unborn i (omega arith);
  }

-- a move without a call
pub all_alone : (w : World) (f : ℕ) (g : Fiber) → AllFit w → slice_get w.fibers f ≡ Some g → Asking g → wish_of (ask_of g) ≡ Alone →
    AllFit (record w { fibers = set w.fibers f (silent_move g) })
all_alone w f g all at asks wish = record {
  many = length-set w.fibers f (silent_move g) ∙ all.many;
  each = λ i x e. dite (ℕ_discrete f i)
      (λ (same : f ≡ i).
      let there : slice_get (set w.fibers f (silent_move g)) f ≡ Some x = subst (λ m. slice_get (set w.fibers f (silent_move g)) m ≡ Some x) (sym same) e in
      let one : silent_move g ≡ x = same_Some (silent_move g) x (sym (slice_get-set_same w.fibers f g (silent_move g) at) ∙ there) in
      subst (λ (y : Fiber). Fits (cell_registered w.cells i) y) one
      (subst (λ m. Fits (cell_registered w.cells m) (silent_move g)) same (fits_alone (cell_registered w.cells f) g (all.each f g at) asks wish)))
      (λ apart. all.each i x (sym (slice_get-set_other w.fibers f i (silent_move g) apart) ∙ e));
  unborn = all.unborn;
}

-- the world of a program before the first move
pub all_first : (k : Limits) (code : Tree) → AreLimits k → ((b : Given) → NamedBeginning b (begins 0 code)) → AllFit (first_world code k)
all_first k code lawful named =
    record { many = refl; each = first; unborn = λ f h. ap owned (get_or-replicate_default fresh k.fibers f) }
  where
    first : (f : ℕ) (g : Fiber) → slice_get (begins 0 code ∷ []) f ≡ Some g → Fits (cell_registered (opening k) f) g
    first zero g e =
        let s = opening k in
        let new = begins_fits (given_by s) 0 code (named (given_by s)) (omega arith) in
        let same : IsMore (given_by s) (given_by s) = record { fibers = omega arith; refs = omega arith; deferreds = omega arith } in
        let owns = fits_as (new_registered 0 (given_by s)) (owned (cell_of s 0)) (given_by s) (begins 0 code) new
        (ap owned (sym (get_or-replicate_default fresh k.fibers 0))) same in
        let fits = fits_more _ (cell_of s 0).request (begins 0 code) owns (λ e. absurd (cc)) in
        subst (Fits (cell_registered s 0)) (same_Some (begins 0 code) g e) fits
    first (suc f) g e = absurd (cc)
