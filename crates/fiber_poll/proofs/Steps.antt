-- One move of a task that starts nobody.
use Rattle.std.proofs.Common.{◌≡◌, ◌≢◌, inl, inr, ℕ, ◌+◌, ◌-◌, ◌<◌, ◌^◌, [], ◌∷◌, Some, None, refl, sym, ap, ◌∙◌, subst, arith}
use mathlib.Core.List.{IsPrefix}
use Rattle.effect_term.specs.declared.reply.Reply.{Reply}
use Rattle.fiber_frames.specs.{declared.{ask.Ask.Ask, config.Moved.Moved}, Rows.{RowKind, Plain, Born, Ended}, Fiber.{Fiber, ask_of, kind_of}}
use Rattle.fiber_frames.specs.{Fiber.{lost, move}, Moves.{moved, told}, Answers.Answers, Leading.{Asked, GoesOn, IsGoing, KindFits, Way, way_after, way_of}}
use Rattle.fiber_frames.proofs.NamedMoves.{run_more}
use Rattle.cell_registry.specs.{declared.{limits.{CellError.CellError, Band.{Band, TheVariants.{Fibers, Refs, Deferreds}}}, call.Call.Call}, Bands.limit_of}
use Rattle.cell_registry.{specs.{Histories.left, Passes.{PassView, RegistryView, IsPass, OnlySees}}, proofs.Legal.next_of-prefix}
use Rattle.scheduled_core.specs.{declared.wish.Wish.{Wish, TheVariants.{Shared, Alone, Nothing}}, Core.{fault_of, wish_of}, Permits.{IsInRange, MayMake}}
use Rattle.scheduled_core.specs.{Permits.RefusedBy, Private.Asking.Asking, Fitting.{Fits, Registered, given_by, pass_registered}}
use Rattle.scheduled_core.proofs.{Answered.alone_answers, Fitted.{If_shared, fits_alone, may_by_ask}, Replied.{call_answers, made_fits}}
use Rattle.derived_ops.specs.Naming.{Given, IsMore}
use Rattle.fiber_poll.specs.{Private.{Making.{MayAnswer, Refuses, Replies}, Told.{Follows, IsAsked, IsStep, Made, Tells, event_at, event_in}}, Turns.Ends}
use Rattle.fiber_poll.specs.{Turns.{event_of, told_by}, Tasks.{IsTask, TaskView, Went}, Stepping.Failed, declared.move_end.MoveEnd.MoveEnd}
use Rattle.fiber_poll.proofs.MovesAndCalls.{went_alone, went_call}
use Rattle.effect_term.specs.declared.reply.Reply.TheVariants as reply
use Rattle.fiber_frames.specs.declared.ask.Ask.TheVariants as ask
use Rattle.cell_registry.specs.declared.limits.CellError.TheVariants as error
use Rattle.cell_registry.specs.declared.limits.RunError.TheVariants as run
use Rattle.cell_registry.specs.declared.call.Call.TheVariants as call

-- ---- a fiber that goes on
-- it fits its pass
pub fits_going : (t : TaskView) → IsTask t → IsGoing (way_of t.state.running) → Fits (pass_registered t.pass) t.state
fits_going t i g = elim i.fits [
  | inl b ↦ absurd (subst IsGoing b g)
  | inr f ↦ f
]

-- all that its ask tells
pub asked_all : (g : Fiber) (a : Ask) → IsAsked g a → a ≡ ask_of g → Asking g
asked_all g a k is =
    let own : IsAsked g (ask_of g) = subst (IsAsked g) is k in
    record { tells = own.tells; leads = own.leads; names = own.names; moves_names = own.moves_names; child_names = own.child_names }

-- it asks for a move, and where it starts nobody the move is a step
pub step_asked : (g : Fiber) (a : Ask) → Asked g a → IsGoing (way_of g.running) → a ≢ ask.Start → IsStep a
step_asked g ask.Start t i o = absurd (o refl)
step_asked g (ask.Over p) t i o = subst IsGoing t i
step_asked g ask.Broken t i o = subst IsGoing t i
step_asked g _ t i o = tt

-- a step calls for no start
step_other : (a : Ask) (c : Call) → IsStep a → wish_of a ≡ Shared c → c ≢ call.Start
step_other a c s w e = go a s (w ∙ ap Shared e)
  where
    go : (a : Ask) → IsStep a → wish_of a ≡ Shared call.Start → ⊥
    go ask.Start s w = s
    go (ask.Over o) s w = s
    go ask.Broken s w = s
    go ask.Look s w = cc
    go ask.Cut s w = cc
    go ask.Mask s w = cc
    go ask.Unmask s w = cc
    go (ask.Finish o) s w = cc
    go (ask.Cancel f) s w = cc
    go (ask.Join f) s w = cc
    go ask.NewRef s w = cc
    go (ask.Get x) s w = cc
    go (ask.Set x v) s w = cc
    go (ask.Modify x v) s w = cc
    go ask.NewDeferred s w = cc
    go (ask.Complete x v) s w = cc
    go (ask.Read x) s w = cc
    go ask.Silent s w = cc

-- the pass may make the call that the fiber asks
may_answer : (p : PassView) (w : Wish) → If_shared w (λ c. IsInRange c → MayMake p c) → MayAnswer p w
may_answer p (Shared c) h = h
may_answer p Alone h = tt
may_answer p Nothing h = tt

pub step_may : (t : TaskView) (a : Ask) → IsTask t → IsGoing (way_of t.state.running) → IsAsked t.state a → MayAnswer t.pass (wish_of a)
step_may t a i g k =
    let p = i.pass in
    let f = fits_going t i g in
    may_answer t.pass (wish_of a)
    (may_by_ask t.pass.registry.limits (pass_registered t.pass)
    (record { fibers = p.told.most Fibers; refs = p.told.most Refs; deferreds = p.told.most Deferreds }) t.state f a k.tells
    (k.names (pass_registered t.pass).given f.names))

-- no fiber uses up the mask numbers
pub next_in_range : (t : TaskView) → IsTask t → IsGoing (way_of t.state.running) → t.state.next < 2 ^ 63
next_in_range t i g =
    let count = i.pass.count in
    let limit = i.pass.limits.count in
    let less = (fits_going t i g).next in
    omega arith

-- ---- what may have been seen beside
seen_more : (p q : PassView) → IsPrefix p.seen q.seen → IsMore (given_by (left p.registry.limits p.seen)) (given_by (left p.registry.limits q.seen))
seen_more p q s = record {
  fibers = next_of-prefix Fibers p.registry.limits p.seen q.seen s;
  refs = next_of-prefix Refs p.registry.limits p.seen q.seen s;
  deferreds = next_of-prefix Deferreds p.registry.limits p.seen q.seen s;
}

-- the same fiber, where more was given
fits_given : (k : Registered) (b : Given) (g : Fiber) → Fits k g → IsMore k.given b → Fits (record k { given = b }) g
fits_given k b g f more = record {
  number = f.number;
  stage = f.stage;
  depth = f.depth;
  look = f.look;
  next = f.next;
  names = run_more k.given b more g.running f.names;
  born = (let less = f.born in let up = more.fibers in omega arith);
}

-- a pass that has seen more
pub looked_task : (t : TaskView) (q : PassView) → IsTask t → IsPass q → OnlySees t.pass q → IsPrefix t.pass.seen q.seen → IsTask record t { pass = q }
looked_task t q i lawful only s = record {
  here = ap (λ (p : PassView). p.registry) only ∙ i.here;
  pass = lawful;
  number = i.number ∙ sym (ap (λ (p : PassView). p.number) only);
  fits = elim i.fits [
    | inl b ↦ inl b
    | inr f ↦ inr (subst (λ x. Fits x t.state) (sym (ap pass_registered only))
        (fits_given (pass_registered t.pass) (given_by (left t.pass.registry.limits q.seen)) t.state f (seen_more t.pass q s)))
  ];
}

-- ---- a refused call
-- the limit that a refusal tells is that of the task's registry
limit_here : (t : TaskView) (b : Band) (n : ℕ) → IsTask t → n ≡ limit_of b t.pass.registry.limits → n ≡ limit_of b t.home.limits
limit_here t b n i e = e ∙ ap (λ (r : RegistryView). limit_of b r.limits) i.here

module _ (t : TaskView) (q : PassView) (i : IsTask t) (lawful : IsPass q) where
  refused_task_by : (c : Call) (e : CellError) → RefusedBy t.pass c e q → IsTask record t { pass = q }
  refused_task_by c (error.Full b n) r = looked_task t q i lawful r.2 r.3.look.seen
  refused_task_by c (error.Spent n) r = subst (λ (x : PassView). IsTask record t { pass = x }) (sym r.3) i

  pub refused_task : (w : Wish) (e : CellError) → Refuses t.pass w e q → IsTask record t { pass = q }
  refused_task (Shared c) e r = refused_task_by c e r
  refused_task Alone e r = absurd r
  refused_task Nothing e r = absurd r

  refused_failed_by : (c : Call) (e : CellError) (n : ℕ) → wish_of (ask_of t.state) ≡ Shared c → n ≡ t.state.number → RefusedBy t.pass c e q →
      Failed t (fault_of n e) (record t { pass = q })
  refused_failed_by c (error.Full b m) n w same r = (w ∙ ap Shared r.0, limit_here t b m i r.1, refl, r.2, r.3)
  refused_failed_by c (error.Spent m) n w same r =
      ((c, w, r.0), same, r.2 ∙ ap (λ (x : RegistryView). x.limits.count) i.here, λ j. record t { pass = r.3 j })

  pub refused_failed : (w : Wish) (e : CellError) (n : ℕ) → wish_of (ask_of t.state) ≡ w → n ≡ t.state.number → Refuses t.pass w e q →
      Failed t (fault_of n e) (record t { pass = q })
  refused_failed (Shared c) e n is same r = refused_failed_by c e n is same r
  refused_failed Alone e n is same r = absurd r
  refused_failed Nothing e n is same r = absurd r

-- ---- what is told of a move
goes_told : (a : Ask) (c : Fiber) (k : RowKind) → GoesOn k → Follows a (told c k)
goes_told a c (Born t) h = absurd h
goes_told a c (Ended o) h = absurd h
goes_told a c _ h = tt

follows_by : (c : Fiber) (a : Ask) (k : RowKind) → IsStep a → KindFits a k → Follows a (told c k)
follows_by c (ask.Finish o) k s h = subst (λ x. Follows (ask.Finish o) (told c x)) (sym h) refl
follows_by c ask.Look k s h = goes_told ask.Look c k h
follows_by c ask.Cut k s h = goes_told ask.Cut c k h
follows_by c ask.Mask k s h = goes_told ask.Mask c k h
follows_by c ask.Unmask k s h = goes_told ask.Unmask c k h
follows_by c (ask.Cancel f) k s h = goes_told (ask.Cancel f) c k h
follows_by c (ask.Join f) k s h = goes_told (ask.Join f) c k h
follows_by c ask.NewRef k s h = goes_told ask.NewRef c k h
follows_by c (ask.Get x) k s h = goes_told (ask.Get x) c k h
follows_by c (ask.Set x v) k s h = goes_told (ask.Set x v) c k h
follows_by c (ask.Modify x v) k s h = goes_told (ask.Modify x v) c k h
follows_by c ask.NewDeferred k s h = goes_told ask.NewDeferred c k h
follows_by c (ask.Complete x v) k s h = goes_told (ask.Complete x v) c k h
follows_by c (ask.Read x) k s h = goes_told (ask.Read x) c k h
follows_by c ask.Silent k s h = goes_told ask.Silent c k h
follows_by c _ k s h = absurd s

event_as : (i : ℕ) (a : Ask) (r : Reply) (c : Fiber) (k : RowKind) → event_in i a r (told c k) ≡ told_by i a r k
event_as i a r c Plain = refl
event_as i a r c _ = refl

event_is : (m : Moved) (g : Fiber) (a : Ask) (r : Reply) → a ≡ ask_of g → m ≡ moved g r → event_in g.number a r m ≡ event_of g r
event_is m g a r is e = ap (event_in g.number a r) e ∙ event_as g.number a r _ (kind_of g r) ∙ ap (λ x. told_by g.number x r (kind_of g r)) is

still_going : (a : Ask) (k : RowKind) (w : Way) (i : ℕ) (r : Reply) → IsGoing w → KindFits a k → told_by i a r k ≡ None → IsGoing (way_after a w)
still_going ask.Cut k w i r h f e = tt
still_going (ask.Finish o) k w i r h f e = absurd (let q : Some (Ends o) ≡ None = sym (ap (told_by i (ask.Finish o) r) f) ∙ e in cc)
still_going _ k w i r h f e = h

-- ---- a reply
module _ (t : TaskView) (a : Ask) (q : PassView) (r : Reply) (i : IsTask t) (g : IsGoing (way_of t.state.running)) (k : IsAsked t.state a)
    (step : IsStep a) (is : a ≡ ask_of t.state) (lawful : IsPass q) where
  asking : Asking t.state
  asking = asked_all t.state a k is

  answers_by : (w : Wish) → wish_of a ≡ w → Replies t.pass w r q → Answers t.state.number a r
  answers_by (Shared c) w m = call_answers t.pass q c r m.call a t.state.number w (step_other a c step w)
  answers_by Alone w m = subst (Answers t.state.number a) (sym m.0) (alone_answers t.state.number a w)
  answers_by Nothing w m = absurd m

  fits_by : (w : Wish) → wish_of a ≡ w → Replies t.pass w r q → Fits (pass_registered q) (move t.state r)
  fits_by (Shared c) w m = made_fits t.pass q c r t.state m (fits_going t i g) asking (ap wish_of (sym is) ∙ w) (step_other a c step w)
  fits_by Alone w m =
      let still : Fits (pass_registered t.pass) (move t.state reply.Done) =
      fits_alone (pass_registered t.pass) t.state (fits_going t i g) asking (ap wish_of (sym is) ∙ w) in
      subst (λ (x : PassView). Fits (pass_registered x) (move t.state r)) (sym m.1)
      (subst (λ (x : Reply). Fits (pass_registered t.pass) (move t.state x)) (sym m.0) still)
  fits_by Nothing w m = absurd m

  here_by : (w : Wish) → Replies t.pass w r q → q.registry ≡ t.home
  here_by (Shared c) m = ap (λ (p : PassView). p.registry) m.same ∙ i.here
  here_by Alone m = ap (λ (p : PassView). p.registry) m.1 ∙ i.here
  here_by Nothing m = absurd m

  module _ (replied : Replies t.pass (wish_of a) r q) where
    pub replied_answers : Answers t.state.number a r
    replied_answers = answers_by (wish_of a) refl replied

    lost_failed_by : (w : Wish) → wish_of a ≡ w → Replies t.pass w r q → (new : Fiber) → new ≡ lost t.state →
        Failed t run.NoMemory (record { home = t.home; pass = q; state = new; moves = t.moves })
    lost_failed_by (Shared c) w m new e = (λ j. record { home = t.home; pass = q; state = e j; moves = t.moves }, inr (c, r, ap wish_of (sym is) ∙ w, m.call))
    lost_failed_by Alone w m new e = (λ j. record { home = t.home; pass = q; state = e j; moves = t.moves }, inl m.1)
    lost_failed_by Nothing w m new e = absurd m

    pub lost_failed : (new : Fiber) → new ≡ lost t.state → Failed t run.NoMemory (record { home = t.home; pass = q; state = new; moves = t.moves })
    lost_failed = lost_failed_by (wish_of a) refl replied

    -- the move was made
    pub moved_task : (new : Fiber) (n : ℕ) → new ≡ move t.state r → IsTask record { home = t.home; pass = q; state = new; moves = n }
    moved_task new n e =
        let f : Fits (pass_registered q) new = subst (Fits (pass_registered q)) (sym e) (fits_by (wish_of a) refl replied) in
        record { here = here_by (wish_of a) replied; pass = lawful; number = f.number; fits = inr f }

    went_by : (w : Wish) → wish_of a ≡ w → Replies t.pass w r q → (c : TaskView) → c.home ≡ t.home → c.pass ≡ q → c.state ≡ move t.state r →
        c.moves + 1 ≡ t.moves → Went t (r ∷ []) c
    went_by w e m c home pass state left = go w e m
      where
        k2 : Answers t.state.number (ask_of t.state) r
        k2 = subst (λ (x : Ask). Answers t.state.number x r) is (answers_by w e m)

        go : (w : Wish) → wish_of a ≡ w → Replies t.pass w r q → Went t (r ∷ []) c
        go (Shared x) e m = went_call t c r home state left k2 x (ap (λ (p : PassView). p.number) (pass ∙ m.same))
            (ap (λ (p : PassView). p.fibers) (pass ∙ m.same))
            (subst (λ (p : PassView). Rattle.cell_registry.specs.Passes.Calls t.pass x r p) (sym pass) m.call) i.number (ap wish_of (sym is) ∙ e)
        go Alone e m = went_alone t c r home state left k2 (pass ∙ m.1) (ap wish_of (sym is) ∙ e)
        go Nothing e m = absurd m

    kind_fits : KindFits a (kind_of t.state r)
    kind_fits = (k.leads r replied_answers).kind

    pub follows : (m : Moved) → m ≡ moved t.state r → Follows a m
    follows m e = subst (Follows a) (sym e) (follows_by _ a (kind_of t.state r) step kind_fits)

    pub made : (new : Fiber) (m : Moved) (s : MoveEnd) → 0 < t.moves → new ≡ move t.state r → m ≡ moved t.state r →
        event_at a s ≡ event_in t.state.number a r m → Tells a s → Made t a s (record { home = t.home; pass = q; state = new; moves = t.moves - 1 })
    made new m s some e tells noted can = record {
      reply = r;
      went = went_by (wish_of a) refl replied _ refl refl e (omega arith);
      event = noted ∙ event_is m t.state a r is tells;
      tells = can;
      way = ap (λ (x : Fiber). way_of x.running) e ∙ (k.leads r replied_answers).way;
      goes = λ quiet. subst (λ (x : Fiber). IsGoing (way_of x.running)) (sym e)
          (subst IsGoing (sym (k.leads r replied_answers).way)
          (still_going a (kind_of t.state r) (way_of t.state.running) t.state.number r g kind_fits
          (ap (λ x. told_by t.state.number x r (kind_of t.state r)) is ∙ quiet)));
    }

-- ---- the goals of a step
module _ (t now : TaskView) (view : t ≡ now) (i : IsTask t) (a : Ask) (asks : a ≡ ask_of now.state) (known : IsAsked now.state a)
    (goes : IsGoing (way_of now.state.running)) (other : a ≢ ask.Start) where
  going : IsGoing (way_of t.state.running)
  going = subst (λ (x : TaskView). IsGoing (way_of x.state.running)) (sym view) goes

  is : a ≡ ask_of t.state
  is = subst (λ (x : TaskView). a ≡ ask_of x.state) (sym view) asks

  asked : IsAsked t.state a
  asked = subst (λ (x : TaskView). IsAsked x.state a) (sym view) known

  starts_none : IsStep a
  starts_none = step_asked t.state a asked.tells going other

  pub here_may : MayAnswer t.pass (wish_of a)
  here_may = step_may t a i going asked

  pub here_in_range : t.state.next < 2 ^ 63
  here_in_range = next_in_range t i going

  module _ (q : PassView) (lawful : IsPass q) where
    pub here_refused : (e : CellError) → Refuses t.pass (wish_of a) e q → IsTask record t { pass = q }
    here_refused e r = refused_task t q i lawful (wish_of a) e r

    pub here_failed : (e : CellError) (n : ℕ) (f : _) → f ≡ fault_of n e → n ≡ t.state.number → Refuses t.pass (wish_of a) e q →
        Failed now f (record t { pass = q })
    here_failed e n f told same r = subst (λ (x : TaskView). Failed x f (record t { pass = q })) view
        (subst (λ x. Failed t x (record t { pass = q })) (sym told) (refused_failed t q i lawful (wish_of a) e n (ap wish_of (sym is)) same r))

    module _ (r : Reply) (replied : Replies t.pass (wish_of a) r q) where
      pub here_answers : Answers t.state.number (ask_of t.state) r
      here_answers = subst (λ (x : Ask). Answers t.state.number x r) is (replied_answers t a q r i going asked starts_none is lawful replied)

      pub here_no_memory : (new : Fiber) → new ≡ lost t.state → Failed now run.NoMemory (record { home = t.home; pass = q; state = new; moves = t.moves })
      here_no_memory new e = subst (λ (x : TaskView). Failed x run.NoMemory (record { home = t.home; pass = q; state = new; moves = t.moves })) view
          (lost_failed t a q r i going asked starts_none is lawful replied new e)

      pub here_follows : (m : Moved) → m ≡ moved t.state r → Follows a m
      here_follows = follows t a q r i going asked starts_none is lawful replied

      pub here_moved : (new : Fiber) (n : ℕ) → new ≡ move t.state r → IsTask record { home = t.home; pass = q; state = new; moves = n }
      here_moved = moved_task t a q r i going asked starts_none is lawful replied

      pub here_made : (new : Fiber) (m : Moved) (s : MoveEnd) (n : ℕ) → 0 < now.moves → new ≡ move t.state r → m ≡ moved t.state r →
          n ≡ t.state.number → event_at a s ≡ event_in n a r m → Tells a s → Made now a s (record { home = t.home; pass = q; state = new; moves = t.moves - 1 })
      here_made new m s n some e tells same noted can =
          subst (λ (x : TaskView). Made x a s (record { home = t.home; pass = q; state = new; moves = t.moves - 1 })) view
          (made t a q r i going asked starts_none is lawful replied new m s (subst (λ (x : TaskView). 0 < x.moves) (sym view) some) e tells
          (noted ∙ ap (λ k. event_in k a r m) same) can)
