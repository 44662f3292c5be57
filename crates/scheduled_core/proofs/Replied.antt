-- A call that a pass made: its reply is of the kind that the ask wants, and the fiber fits the pass afterwards; and so does a child its own.
use Rattle.std.proofs.Common.{◌≡◌, ◌≢◌, ℕ, ◌<◌, List, [], ◌∷◌, ◌++◌, refl, sym, ap, ◌∙◌, subst, arith, append_assoc}
use mathlib.Core.List.{IsPrefix}
use Rattle.derived_ops.specs.{Tree.Tree, Naming.{Given, IsMore}}
use Rattle.effect_term.specs.declared.reply.Reply.{Reply}
use Rattle.fiber_frames.specs.{declared.ask.Ask.Ask, Rows.number_in, Fiber.{Fiber, ask_of, begins, child, move}, Answers.Answers, Naming.NamedBeginning}
use Rattle.fiber_frames.{specs.Naming.NumberGiven, proofs.NamedMoves.run_more}
use Rattle.cell_registry.specs.{declared.{limits.Band.TheVariants.{Fibers, Refs, Deferreds}, call.{Call.Call, Entry.Entry}}, Cells.reply_of, Histories.IsLegal}
use Rattle.cell_registry.{specs.{Histories.left, Passes.{PassView, IsPass, Calls, OnlySees, Starts, newborn}, Steps.entry}, proofs.Legal.IsLegal-last}
use Rattle.cell_registry.proofs.{Legal.next_of-prefix, Giving.{WasGiven-next, WasGiven-push}}
use Rattle.scheduled_core.specs.{declared.wish.Wish.TheVariants.Shared, Core.wish_of, Fitting.{Fits, given_by, new_registered, pass_registered}, Permits.Makes}
use Rattle.scheduled_core.{specs.Private.Asking.Asking, proofs.{Answered.called_answers, Fitted.{If_shared, at_call, fits_after}}}
use Rattle.effect_term.specs.declared.reply.Reply.TheVariants as reply
use Rattle.fiber_frames.specs.declared.ask.Ask.TheVariants as ask
use Rattle.cell_registry.specs.declared.call.Call.TheVariants as call

-- ---- the reply of a call
module _ (p q : PassView) (c : Call) (r : Reply) (made : Calls p c r q) where
  abbrev e : Entry
  e = entry p.number c r

  abbrev before : List Entry
  before = p.seen ++ made.between

  legal : IsLegal p.registry.limits (before ++ e ∷ [])
  legal = subst (λ (h : List Entry). IsLegal p.registry.limits h) made.seen made.legal

  replied : r ≡ reply_of (left p.registry.limits before) p.number c
  replied = (IsLegal-last p.registry.limits before e legal).1.replied

  pub goes_on : IsPrefix p.seen q.seen
  goes_on = (made.between ++ e ∷ [], sym (append_assoc p.seen made.between (e ∷ [])) ∙ sym made.seen)

  pub call_answers : (a : Ask) (n : ℕ) → wish_of a ≡ Shared c → c ≢ call.Start → Answers n a r
  call_answers a n w other = subst (Answers n a) (sym replied) (called_answers (left p.registry.limits before) p.number n a c w other)

  pub given_more : IsMore (given_by (left p.registry.limits p.seen)) (given_by (left p.registry.limits q.seen))
  given_more = record {
    fibers = next_of-prefix Fibers p.registry.limits p.seen q.seen goes_on;
    refs = next_of-prefix Refs p.registry.limits p.seen q.seen goes_on;
    deferreds = next_of-prefix Deferreds p.registry.limits p.seen q.seen goes_on;
  }

  -- the number that the last call was answered
  number_given : (n : ℕ) (a : Ask) → r ≡ reply.Number n → If_shared (wish_of a) (λ d. c ≡ d → NumberGiven (given_by (left p.registry.limits q.seen)) a r)
  number_given n ask.Start is = λ same.
      subst (λ (h : List Entry). number_in r < (left p.registry.limits h).next_fiber) (sym made.seen)
      (subst (λ x. x < (left p.registry.limits (before ++ e ∷ [])).next_fiber) (ap number_in (sym is))
      (WasGiven-next Fibers p.registry.limits (before ++ e ∷ []) n legal (WasGiven-push Fibers before e n same is)))
  number_given n ask.NewRef is = λ same.
      subst (λ (h : List Entry). number_in r < (left p.registry.limits h).next_ref) (sym made.seen)
      (subst (λ x. x < (left p.registry.limits (before ++ e ∷ [])).next_ref) (ap number_in (sym is))
      (WasGiven-next Refs p.registry.limits (before ++ e ∷ []) n legal (WasGiven-push Refs before e n same is)))
  number_given n ask.NewDeferred is = λ same.
      subst (λ (h : List Entry). number_in r < (left p.registry.limits h).next_deferred) (sym made.seen)
      (subst (λ x. x < (left p.registry.limits (before ++ e ∷ [])).next_deferred) (ap number_in (sym is))
      (WasGiven-next Deferreds p.registry.limits (before ++ e ∷ []) n legal (WasGiven-push Deferreds before e n same is)))
  number_given n ask.Silent is = tt
  number_given n (ask.Over o) is = tt
  number_given n ask.Broken is = tt
  number_given n _ is = λ same. tt

-- the number in a reply that has one
wants_number : (b : Given) (i : ℕ) (a : Ask) (r : Reply) → Answers i a r → ((n : ℕ) → r ≡ reply.Number n → NumberGiven b a r) → NumberGiven b a r
wants_number b i ask.Start (reply.Number n) w h = h n refl
wants_number b i ask.NewRef (reply.Number n) w h = h n refl
wants_number b i ask.NewDeferred (reply.Number n) w h = h n refl
wants_number b i ask.Start reply.Done w h = absurd w
wants_number b i ask.Start (reply.Seen x) w h = absurd w
wants_number b i ask.Start (reply.Cancel x) w h = absurd w
wants_number b i ask.Start (reply.Join x) w h = absurd w
wants_number b i ask.Start (reply.Value x) w h = absurd w
wants_number b i ask.Start (reply.Completed x) w h = absurd w
wants_number b i ask.Start (reply.Read x) w h = absurd w
wants_number b i ask.NewRef reply.Done w h = absurd w
wants_number b i ask.NewRef (reply.Seen x) w h = absurd w
wants_number b i ask.NewRef (reply.Cancel x) w h = absurd w
wants_number b i ask.NewRef (reply.Join x) w h = absurd w
wants_number b i ask.NewRef (reply.Value x) w h = absurd w
wants_number b i ask.NewRef (reply.Completed x) w h = absurd w
wants_number b i ask.NewRef (reply.Read x) w h = absurd w
wants_number b i ask.NewDeferred reply.Done w h = absurd w
wants_number b i ask.NewDeferred (reply.Seen x) w h = absurd w
wants_number b i ask.NewDeferred (reply.Cancel x) w h = absurd w
wants_number b i ask.NewDeferred (reply.Join x) w h = absurd w
wants_number b i ask.NewDeferred (reply.Value x) w h = absurd w
wants_number b i ask.NewDeferred (reply.Completed x) w h = absurd w
wants_number b i ask.NewDeferred (reply.Read x) w h = absurd w
wants_number b i _ r w h = tt

pub call_given : (p q : PassView) (c : Call) (r : Reply) → Calls p c r q → (a : Ask) (i : ℕ) → wish_of a ≡ Shared c → Answers i a r →
    NumberGiven (given_by (left p.registry.limits q.seen)) a r
call_given p q c r made a i w k =
    wants_number (given_by (left p.registry.limits q.seen)) i a r k
    (λ n is. at_call (wish_of a) c (λ d. c ≡ d → NumberGiven (given_by (left p.registry.limits q.seen)) a r) w (number_given p q c r made n a is) refl)

-- ---- the fit after a call
pub made_fits : (p q : PassView) (c : Call) (r : Reply) (g : Fiber) → Makes p c r q → Fits (pass_registered p) g → Asking g →
    wish_of (ask_of g) ≡ Shared c → c ≢ call.Start → Fits (pass_registered q) (move g r)
made_fits p q c r g m f h w other =
    let k = call_answers p q c r m.call (ask_of g) g.number w other in
    subst (λ x. Fits x (move g r)) (sym (ap pass_registered m.same))
    (fits_after (pass_registered p) g r (given_by (left p.registry.limits q.seen)) c f h w k (given_more p q c r m.call)
    (call_given p q c r m.call (ask_of g) g.number w k))

-- ---- a start
is_start : (i n : ℕ) (a : Ask) → wish_of a ≡ Shared call.Start → i < n → Answers i a (reply.Number n)
is_start i n ask.Start e l = l
is_start i n ask.NewRef e l = tt
is_start i n ask.NewDeferred e l = tt
is_start i n _ e l = absurd (cc)

-- the number that a start gives is above the fiber's own
pub start_answers : (p ch q : PassView) (g : Fiber) → IsPass p → Starts p ch q → g.number ≡ p.number → wish_of (ask_of g) ≡ Shared call.Start →
    Answers g.number (ask_of g) (reply.Number ch.number)
start_answers p ch q g lawful s n w =
    let above = s.above p.number lawful.own in
    is_start g.number ch.number (ask_of g) w (subst (λ i. i < ch.number) (sym n) above)

-- a fiber at its beginning fits what is registered of a new one
pub begins_fits : (b : Given) (i : ℕ) (t : Tree) → NamedBeginning b (begins i t) → i < b.fibers → Fits (new_registered i b) (begins i t)
begins_fits b i t h l = record { number = refl; stage = refl; depth = sym h.depth; look = tt; next = omega arith; names = h.names; born = l }

pub started_fits : (p ch q : PassView) (g : Fiber) → IsPass p → Starts p ch q → OnlySees p q → Fits (pass_registered p) g → Asking g →
    wish_of (ask_of g) ≡ Shared call.Start → Fits (pass_registered q) (move g (reply.Number ch.number)) × Fits (pass_registered ch) (child g ch.number)
started_fits p ch q g lawful s same f h w =
    let r = reply.Number ch.number in
    let k = start_answers p ch q g lawful s f.number w in
    let more = given_more p q call.Start r s.call in
    let b = given_by (left p.registry.limits q.seen) in
    let given = call_given p q call.Start r s.call (ask_of g) g.number w k in
    let number : ch.number < b.fibers = (number_given p q call.Start r s.call ch.number ask.Start refl) refl in
    let names = (fits_after (pass_registered p) g r b call.Start f h w k more given) in
    let young : Fits (new_registered ch.number b) (child g ch.number) =
    begins_fits b ch.number _ (h.child_names b ch.number (run_more (pass_registered p).given b more g.running f.names)) number in (
      subst (λ x. Fits x (move g r)) (sym (ap pass_registered same)) names,
      subst (λ x. Fits x (child g ch.number)) (sym (ap pass_registered s.child ∙ ap (λ x. pass_registered (newborn x ch.number)) same)) young,
    )
