-- A move of a task that starts a fiber.
use Rattle.std.proofs.Common.{◌≡◌, inr, ℕ, ◌-◌, ◌<◌, [], ◌∷◌, ◌++◌, Some, refl, sym, ap, ◌∙◌, subst, arith}
use Rattle.effect_term.specs.declared.reply.Reply.{Reply}
use Rattle.fiber_frames.specs.{declared.{ask.Ask.Ask, config.Moved.Moved}, Rows.{RowKind, Born}, Fiber.{Fiber, ask_of, child}}
use Rattle.fiber_frames.specs.{Fiber.{kind_of, move}, Moves.{moved, told}, Answers.Answers, Leading.{IsBirth, IsGoing, way_of}}
use Rattle.cell_registry.specs.{declared.call.Entry.Entry, Histories.calls_by, Steps.entry, Passes.{PassView, IsPass, OnlySees, Starts, Calls, newborn}}
use Rattle.cell_registry.proofs.Legal.{calls_by-push}
use Rattle.scheduled_core.{specs.{Core.wish_of, Fitting.{Fits, pass_registered}}, proofs.{Standing.Lists.end_left, Replied.{start_answers, started_fits}}}
use Rattle.fiber_poll.specs.{Turns.{Starts_child, told_by}, Tasks.{IsTask, TaskView}, Stepping.IsChild, Private.Told.{Bears, IsAsked}}
use Rattle.fiber_poll.proofs.{MovesAndCalls.went_call, Steps.{asked_all, fits_going}}
use Rattle.effect_term.specs.declared.reply.Reply.TheVariants as reply
use Rattle.fiber_frames.specs.declared.ask.Ask.TheVariants as ask
use Rattle.fiber_frames.specs.declared.config.Moved.TheVariants as moves
use Rattle.cell_registry.specs.declared.call.Call.TheVariants as call

-- ---- what is told of a birth
births : (c : Fiber) (k : RowKind) → IsBirth k → told c k ≡ moves.Born c
births c (Born t) h = refl
births c _ h = absurd h

birth_event : (i : ℕ) (a : Ask) (r : Reply) (k : RowKind) → IsBirth k → told_by i a r k ≡ Some Starts_child
birth_event i a r (Born t) h = refl
birth_event i a r _ h = absurd h

-- the fiber goes on where it asks for a start
start_going : (g : Fiber) (a : Ask) → IsAsked g a → a ≡ ask.Start → IsGoing (way_of g.running)
start_going g a k e = subst (Rattle.fiber_frames.specs.Leading.Asked g) e k.tells

module _ (t : TaskView) (ch q : PassView) (n : ℕ) (i : IsTask t) (lawful : IsPass q) (asked : ask_of t.state ≡ ask.Start)
    (known : IsAsked t.state (ask_of t.state)) (only : OnlySees t.pass q) (s : Starts t.pass ch q) (e : n ≡ ch.number) where
  starts : IsAsked t.state ask.Start
  starts = subst (IsAsked t.state) asked known

  fits_before : Fits (pass_registered t.pass) t.state
  fits_before = fits_going t i (start_going t.state ask.Start starts refl)

  both : Fits (pass_registered q) (move t.state (reply.Number ch.number)) × Fits (pass_registered ch) (child t.state ch.number)
  both = started_fits t.pass ch q t.state i.pass s only fits_before (asked_all t.state (ask_of t.state) known refl) (ap wish_of asked)

  pub birth_answers : Answers t.state.number (ask_of t.state) (reply.Number n)
  birth_answers = subst (λ x. Answers t.state.number (ask_of t.state) (reply.Number x)) (sym e)
      (start_answers t.pass ch q t.state i.pass s i.number (ap wish_of asked))

  answers : Answers t.state.number ask.Start (reply.Number n)
  answers = subst (λ (a : Ask). Answers t.state.number a (reply.Number n)) asked birth_answers

  is_born : IsBirth (kind_of t.state (reply.Number n))
  is_born = (starts.leads (reply.Number n) answers).kind

  pub birth_told : (m : Moved) → m ≡ moved t.state (reply.Number n) → m ≡ moves.Born (child t.state n)
  birth_told m is = is ∙ births (child t.state n) (kind_of t.state (reply.Number n)) is_born

  child_is : (c : Fiber) (m : Moved) → m ≡ moved t.state (reply.Number n) → m ≡ moves.Born c → c ≡ child t.state ch.number
  child_is c m is born =
      let same : moves.Born c ≡ moves.Born (child t.state n) = sym born ∙ birth_told m is in
      let one : c ≡ child t.state n = cc in
      one ∙ ap (child t.state) e

  here : q.registry ≡ t.home
  here = ap (λ (x : PassView). x.registry) only ∙ i.here

  -- the move was made
  pub birth_task : (new : Fiber) (left : ℕ) → new ≡ move t.state (reply.Number n) → IsTask record { home = t.home; pass = q; state = new; moves = left }
  birth_task new left is =
      let f : Fits (pass_registered q) new = subst (Fits (pass_registered q)) (ap (λ x. move t.state (reply.Number x)) (sym e) ∙ sym is) both.0 in
      record { here = here; pass = lawful; number = f.number; fits = inr f }

  pub child_fits : (c : Fiber) (m : Moved) → m ≡ moved t.state (reply.Number n) → m ≡ moves.Born c → Fits (pass_registered ch) c
  child_fits c m is born = subst (Fits (pass_registered ch)) (sym (child_is c m is born)) both.1

  -- the child begins with the calls that its parent had made, and that of the start
  still : calls_by t.pass.number (t.pass.seen ++ s.call.between) ≡ calls_by t.pass.number t.pass.seen
  still =
      let x : Entry = entry t.pass.number call.Start (reply.Number ch.number) in
      end_left (calls_by t.pass.number (t.pass.seen ++ s.call.between)) (calls_by t.pass.number t.pass.seen) x x
      (sym (calls_by-push t.pass.number (t.pass.seen ++ s.call.between) x refl) ∙ ap (calls_by t.pass.number) (sym s.call.seen) ∙ s.call.own)

  module _ (new c : Fiber) (m : Moved) (y : TaskView) (some : 0 < t.moves) (is : new ≡ move t.state (reply.Number n))
      (tells : m ≡ moved t.state (reply.Number n)) (born : m ≡ moves.Born c)
      (are : y ≡ record { home = t.home; pass = ch; state = c; moves = t.moves - 1 }) where
    abbrev later : TaskView
    later = record { home = t.home; pass = q; state = new; moves = t.moves - 1 }

    number_is : n ≡ y.pass.number
    number_is = e ∙ sym (ap (λ (x : TaskView). x.pass.number) are)

    is_child : IsChild t (reply.Number n) later y
    is_child = record {
      number = ap reply.Number number_is;
      wants = ap wish_of asked;
      state = ap (λ (x : TaskView). x.state) are ∙ child_is c m tells born ∙ ap (child t.state) (sym (ap (λ (x : TaskView). x.pass.number) are));
      pass = ap (λ (x : TaskView). x.pass) are ∙ s.child ∙ ap (newborn q) (sym (ap (λ (x : TaskView). x.pass.number) are));
      home = ap (λ (x : TaskView). x.home) are;
      left = ap (λ (x : TaskView). x.moves) are;
      before = t.pass.seen ++ s.call.between;
      last = s.call.seen ∙ ap (λ x. (t.pass.seen ++ s.call.between) ++ entry t.pass.number call.Start (reply.Number x) ∷ []) (sym e);
      later = (s.call.between, refl);
      still = still;
    }

    pub bears : Bears t later y
    bears = record {
      reply = reply.Number n;
      went = went_call t later (reply.Number n) refl is (omega arith) birth_answers call.Start (ap (λ (x : PassView). x.number) only)
          (ap (λ (x : PassView). x.fibers) only) (subst (λ x. Calls t.pass call.Start (reply.Number x) q) (sym e) s.call) i.number (ap wish_of asked);
      event = birth_event t.state.number (ask_of t.state) (reply.Number n) (kind_of t.state (reply.Number n)) is_born;
      child = is_child;
    }

-- ---- the goals of a start
module _ (t now : TaskView) (view : t ≡ now) (i : IsTask t) (wish : ask_of now.state ≡ ask.Start) (a : Ask) (is : a ≡ ask_of t.state)
    (known : IsAsked t.state a) (ch q : PassView) (n : ℕ) (lawful : IsPass q) (only : OnlySees t.pass q) (s : Starts t.pass ch q) (e : n ≡ ch.number) where
  asked : ask_of t.state ≡ ask.Start
  asked = subst (λ (x : TaskView). ask_of x.state ≡ ask.Start) (sym view) wish

  asks : IsAsked t.state (ask_of t.state)
  asks = subst (IsAsked t.state) is known

  pub here_fits : (c : Fiber) (m : Moved) → m ≡ moved t.state (reply.Number n) → m ≡ moves.Born c → Fits (pass_registered ch) c
  here_fits = child_fits t ch q n i lawful asked asks only s e

  pub here_moved : (new : Fiber) (left : ℕ) → new ≡ move t.state (reply.Number n) → IsTask record { home = t.home; pass = q; state = new; moves = left }
  here_moved = birth_task t ch q n i lawful asked asks only s e

  pub here_bears : (new c : Fiber) (m : Moved) (y : TaskView) → 0 < now.moves → new ≡ move t.state (reply.Number n) →
      m ≡ moved t.state (reply.Number n) → m ≡ moves.Born c → y ≡ record { home = t.home; pass = ch; state = c; moves = t.moves - 1 } →
      Bears now (record { home = t.home; pass = q; state = new; moves = t.moves - 1 }) y
  here_bears new c m y some is tells born are = subst (λ (x : TaskView). Bears x (record { home = t.home; pass = q; state = new; moves = t.moves - 1 }) y) view
      (bears t ch q n i lawful asked asks only s e new c m y (subst (λ (x : TaskView). 0 < x.moves) (sym view) some) is tells born are)
